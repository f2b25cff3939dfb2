use Rattle.fold_boxes.specs.Pose.{pose_data}
use Rattle.sweep_check.proofs.FirstHits.{EachBefore}
use Rattle.stroke_table.specs.Gauging.{MakesPair}
use Rattle.stroke_table.proofs.gauging.first_right.Given as goal

abbrev pub invariant-loop-right : goal.invariant-loop-right
invariant-loop-right l = EachBefore (λ right. MakesPair l.job (pose_data l.pose) l.left right → ⊥) l.boxes l.right-index
