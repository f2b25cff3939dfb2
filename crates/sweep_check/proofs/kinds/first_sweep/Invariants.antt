use Rattle.std.proofs.Common.{take}
use Rattle.brake_base.specs.declared.stroke.Back.{Back}
use Rattle.sweep_check.proofs.Swept.{FirstBy}
use Rattle.sweep_check.proofs.kinds.first_sweep.Given as goal

abbrev pub invariant-loop-body : goal.invariant-loop-body
invariant-loop-body l = (back : Back) → FirstBy l.job back l.around.stage (take l.body-index l.boxes) l.first
