use Rattle.std.proofs.Common.{◌≡◌, ◌<◌}
use Rattle.brake_base.specs.declared.stroke.Gauge.{Gauge}
use Rattle.fold_boxes.specs.Pose.{pose_data}
use Rattle.job_setup.specs.LegalGauge.{IsLegalPair}
use Rattle.gauge_rules.proofs.pairs.first_with.Given as goal

abbrev pub invariant-loop-right_face : goal.invariant-loop-right_face
invariant-loop-right_face l = (other : Gauge) → other.left_face ≡ l.left_face → other.right_face < l.right_face → IsLegalPair l.job (pose_data l.pose) other → ⊥
