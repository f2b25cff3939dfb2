use Rattle.brake_base.specs.declared.mask.Mask.{Mask}
use Rattle.stroke_table.specs.Codes.{HoldsAmong, AreLeastCodes}
use Rattle.stroke_table.proofs.finding.line_codes.Given as goal

abbrev pub invariant-loop-stage : goal.invariant-loop-stage
invariant-loop-stage l = (mask : Mask) → AreLeastCodes l.stage (HoldsAmong l.job mask (record { group = l.pose.group; back = l.back }) 1 2) l.codes.0
