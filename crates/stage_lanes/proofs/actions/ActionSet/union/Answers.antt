use Rattle.stage_lanes.proofs.PlaceLemmas.{union_places}
use Rattle.stage_lanes.proofs.actions.ActionSet.union.Goals as goal

pub returns : goal.returns
returns c = record { places = union_places c.args.self c.args.other }
