use Rattle.stage_lanes.proofs.PlaceLemmas.{both_places}
use Rattle.stage_lanes.proofs.actions.ActionSet.intersection.Goals as goal

pub returns : goal.returns
returns c = record { places = both_places c.args.self c.args.other }
