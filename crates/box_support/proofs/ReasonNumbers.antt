-- The numbers in reasons that hold: of the boxes 0 to 24, of obstacles below 64, and of the job's stages.
use Rattle.std.proofs.Common.{ℕ, ◌<◌, slice_index, arith}
use Rattle.brake_base.specs.declared.mask.Mask.{Mask}
use Rattle.brake_base.specs.declared.stroke.Back.{Back}
use Rattle.brake_base.specs.declared.stroke.Half.TheVariants.{Back as BackHalf, Front as FrontHalf}
use Rattle.brake_base.specs.declared.reason.Reason.{Reason}
use Rattle.brake_base.specs.declared.reason.Reason.TheVariants.{Cover, Rest, Frame, Upper, Nose, Lower, SelfHit, NoGauge, Load}
use Rattle.brake_base.specs.Reasons.{reason_place}
use Rattle.job_setup.specs.Setup.{JobData}
use Rattle.job_setup.specs.ValidJob.{IsJob}
use Rattle.job_setup.specs.Reasons.{IsReason}
use Rattle.job_setup.proofs.ReasonNumbers.{some_box, some_lower, some_upper}

-- the first argument of a reason is below 25, and the last one below 64
pub record AreFewNumbers (reason : Reason) : Type 0 where
  pub first : slice_index (reason_place reason) 1 < 25
  pub last : slice_index (reason_place reason) 3 < 64

pub few_numbers : (job : JobData) → IsJob job → (mask group : Mask) (back : Back) (stage : ℕ) (reason : Reason) → IsReason job mask group back stage reason → AreFewNumbers reason
few_numbers job is_job mask group back stage Cover holds = record { first = omega arith; last = omega arith }
few_numbers job is_job mask group back stage (Rest BackHalf) holds = record { first = omega arith; last = omega arith }
few_numbers job is_job mask group back stage (Rest FrontHalf) holds = record { first = omega arith; last = omega arith }
few_numbers job is_job mask group back stage (Frame box) holds = record { first = let few = some_box job is_job mask group back stage box _ holds in omega (arith, few); last = omega arith }
few_numbers job is_job mask group back stage (Upper box quarter index) holds =
    let few = some_box job is_job mask group back stage box _ holds in
    let low = some_upper job is_job index _ holds.4.1 in
    record { first = omega (arith, few); last = omega (arith, low) }
few_numbers job is_job mask group back stage (Nose box quarter other) holds =
    let few = some_box job is_job mask group back stage box _ holds.1 in
    record { first = omega (arith, few); last = let low = holds.0 in omega (arith, low, is_job.setup.stages.few_stages) }
few_numbers job is_job mask group back stage (Lower box quarter index) holds =
    let few = some_box job is_job mask group back stage box _ holds in
    let low = some_lower job is_job stage index _ holds.4.1 in
    record { first = omega (arith, few); last = omega (arith, low) }
few_numbers job is_job mask group back stage (SelfHit box quarter other) holds =
    let few = some_box job is_job mask group back stage box _ holds in
    let low = some_box job is_job mask group back stage other _ holds.4.1 in
    record { first = omega (arith, few); last = omega (arith, low) }
few_numbers job is_job mask group back stage NoGauge holds = record { first = omega arith; last = omega arith }
few_numbers job is_job mask group back stage Load holds = record { first = omega arith; last = omega arith }
