use Rattle.std.proofs.Common.{rules}
use Rattle.stage_lanes.proofs.PlaceLemmas.{without_places}
use Rattle.stage_lanes.proofs.actions.ActionSet.without.Goals as goal

pub returns : goal.returns
returns c = record { places = without_places c.args.self c.args.other (λ word h. search rules) }
