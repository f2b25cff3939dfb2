use Rattle.fold_boxes.specs.Pose.{pose_data}
use Rattle.sweep_check.proofs.FirstHits.{EachBefore}
use Rattle.stroke_table.proofs.LegalBoxes.{HasPair}
use Rattle.stroke_table.proofs.gauging.first_pair.Given as goal

abbrev pub invariant-loop-left : goal.invariant-loop-left
invariant-loop-left l = EachBefore (λ left. HasPair l.job (pose_data l.pose) left → ⊥) l.boxes l.left-index
