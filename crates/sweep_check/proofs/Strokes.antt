-- The first reason of a stroke, from that of its pose.
use Rattle.std.proofs.Common.{◌≡◌, ℕ, ◌≤◌, Option, Some, None, refl, sym, ap, subst, arith}
use Rattle.std.specs.Prelude.{IfNone}
use Rattle.brake_base.specs.declared.reason.Reason.{Reason}
use Rattle.brake_base.specs.declared.reason.Reason.TheVariants.{Cover, Rest, Frame, Upper, Nose, Lower, SelfHit, NoGauge, Load}
use Rattle.fold_boxes.specs.Pose.{PoseData}
use Rattle.job_setup.specs.Setup.{JobData}
use Rattle.job_setup.specs.Reasons.{IsReasonOf, IsPoseAt}
use Rattle.job_setup.specs.ValidJob.{IsJob}
use Rattle.sweep_check.specs.MotionFree.{IsMotionFree}
use Rattle.sweep_check.proofs.MotionLaw.{motion_of_none}
use Rattle.sweep_check.specs.FirstReasons.{kind_place, IsFirstAmong, IsFirstBeforeNoGauge}

from_one : (reason : Reason) → 1 ≤ kind_place reason
from_one Cover = omega arith
from_one (Rest half) = omega arith
from_one (Frame box) = omega arith
from_one (Upper box quarter index) = omega arith
from_one (Nose box quarter stage) = omega arith
from_one (Lower box quarter index) = omega arith
from_one (SelfHit box quarter other) = omega arith
from_one NoGauge = omega arith
from_one Load = omega arith

to_eight : (reason : Reason) → (reason ≡ NoGauge → ⊥) → kind_place reason ≤ 8
to_eight Cover other = omega arith
to_eight (Rest half) other = omega arith
to_eight (Frame box) other = omega arith
to_eight (Upper box quarter index) other = omega arith
to_eight (Nose box quarter stage) other = omega arith
to_eight (Lower box quarter index) other = omega arith
to_eight (SelfHit box quarter other) no_gauge = omega arith
to_eight NoGauge other = absurd (other refl)
to_eight Load other = omega arith

not_last : (reason : Reason) → kind_place reason ≤ 8 → reason ≡ NoGauge → ⊥
not_last reason high is = let nine : kind_place reason ≡ 9 = ap kind_place is in omega (arith, nine, high)

pub first_of_stroke : (job : JobData) (stage : ℕ) (pose : PoseData) (found : Option Reason) (stroke : IsPoseAt job stage pose) → IsFirstAmong job pose stroke.back stage 1 8 found → IsFirstBeforeNoGauge job stroke.mask stroke.group stroke.back stage found
first_of_stroke job stage pose None stroke none = λ reason other holds. none reason (from_one reason) (to_eight reason other) (subst (λ (p : PoseData). IsReasonOf job p stroke.back stage reason) (sym stroke.value) holds)
first_of_stroke job stage pose (Some reason) stroke first = (
  not_last reason first.high,
  record {
    holds = subst (λ (p : PoseData). IsReasonOf job p stroke.back stage reason) stroke.value first.holds;
    first = λ other holds before. first.first other (from_one other) (subst (λ (p : PoseData). IsReasonOf job p stroke.back stage other) (sym stroke.value) holds) before;
  },
)

-- where no such reason holds, the stroke is free
pub free_of_none : (job : JobData) (stage : ℕ) (pose : PoseData) → IsJob job → (stroke : IsPoseAt job stage pose) (found : Option Reason) → IsFirstBeforeNoGauge job stroke.mask stroke.group stroke.back stage found → IfNone found (IsMotionFree job stage pose)
free_of_none job stage pose valid stroke None none = motion_of_none job valid stage pose stroke none
free_of_none job stage pose valid stroke (Some reason) first = tt
