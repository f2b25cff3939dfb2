use Rattle.std.proofs.Common.{arith}
use Rattle.brake_base.proofs.Actions.{split_number}
use Rattle.stage_lanes.proofs.actions.action_at.Goals.{then-side-eq0, else-side-eq0}
use Rattle.stage_lanes.proofs.actions.action_at.Goals as goal

pub returns-clause-value : goal.returns-clause-value
returns-clause-value c = split_number 8 c.args.place c.if-side-eq0.result (elim c.if-side-eq0.branch [
  | then-side-eq0 w ↦ rw w.result-is (omega (arith, w.if-side-eq0.true))
  | else-side-eq0 w ↦ rw w.result-is (omega (arith, w.if-side-eq0.false))
])
