use Rattle.stage_lanes.proofs.PlaceLemmas.{none_is}
use Rattle.stage_lanes.proofs.actions.ActionSet.empty.Goals as goal

pub returns : goal.returns
returns c = record { value = none_is }
