use Rattle.brake_base.specs.declared.mask.Mask.{Mask}
use Rattle.brake_base.specs.declared.stroke.Back.{Back}
use Rattle.stroke_table.specs.Codes.{HoldsAmong, AreLeastCodes}
use Rattle.stroke_table.proofs.finding.load_codes.Given as goal

abbrev pub invariant-loop-stage : goal.invariant-loop-stage
invariant-loop-stage l = (mask : Mask) (back : Back) → AreLeastCodes l.stage (HoldsAmong l.job mask (record { group = l.pose.group; back = back }) 8 8) l.codes.0
