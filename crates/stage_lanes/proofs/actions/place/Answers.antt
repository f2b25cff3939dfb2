use Rattle.std.proofs.Common.{arith}
use Rattle.brake_base.specs.Actions.{number_of_action}
use Rattle.stage_lanes.proofs.actions.place.Goals as goal

pub returns-clause-value : goal.returns-clause-value
unfolding number_of_action
returns-clause-value c = rw c.side.ensures.value (omega arith)
