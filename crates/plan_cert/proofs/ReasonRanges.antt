-- The numbers in reasons that hold are within the ranges of a certificate.
use Rattle.std.proofs.Common.{ℕ}
use Rattle.brake_base.specs.declared.mask.Mask.{Mask}
use Rattle.brake_base.specs.declared.stroke.Back.{Back}
use Rattle.brake_base.specs.declared.stroke.Action.{Action}
use Rattle.brake_base.specs.declared.reason.Reason.{Reason}
use Rattle.brake_base.specs.declared.reason.Reason.TheVariants.{Frame, Upper, Nose, Lower, SelfHit}
use Rattle.job_setup.specs.Setup.{JobData}
use Rattle.job_setup.specs.StrokeGroup.{group_of}
use Rattle.job_setup.specs.ValidJob.{IsJob}
use Rattle.job_setup.specs.Reasons.{IsReason}
use Rattle.job_setup.proofs.ReasonNumbers.{some_box, some_lower, some_upper}
use Rattle.handling_cost.specs.Plan.{IsReasonFor}
use Rattle.plan_lines.specs.LinesFit.{IsReasonInRange}

ranged : (job : JobData) → IsJob job → (mask group : Mask) (back : Back) (stage : ℕ) (reason : Reason) → IsReason job mask group back stage reason → IsReasonInRange job reason
ranged job is_job mask group back stage (Frame box) holds = some_box job is_job mask group back stage box _ holds
ranged job is_job mask group back stage (Upper box quarter index) holds = (some_box job is_job mask group back stage box _ holds, some_upper job is_job index _ holds.4.1)
ranged job is_job mask group back stage (Nose box quarter other) holds = (some_box job is_job mask group back stage box _ holds.1, holds.0)
ranged job is_job mask group back stage (Lower box quarter index) holds = (some_box job is_job mask group back stage box _ holds, some_lower job is_job stage index _ holds.4.1)
ranged job is_job mask group back stage (SelfHit box quarter other) holds = (some_box job is_job mask group back stage box _ holds, some_box job is_job mask group back stage other _ holds.4.1)
ranged job is_job mask group back stage _ holds = tt

-- a reason that holds against an action is within the ranges of a certificate
pub reason_ranged : (job : JobData) → IsJob job → (mask : Mask) (action : Action) (reason : Reason) → IsReasonFor job mask action reason → IsReasonInRange job reason
unfolding IsReasonFor
reason_ranged job is_job mask action reason holds = ranged job is_job mask (group_of job mask action.bend) action.back action.stage reason holds
