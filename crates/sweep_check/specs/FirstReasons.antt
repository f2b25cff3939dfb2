-- The first reason against a stroke.
use Rattle.std.specs.Prelude.{◌≡◌, ◌≢◌, ◌⊎◌, ℕ, ◌≤◌, pos, List, [], slice_index_or, Option, Some}
use Rattle.std.specs.Prelude.{None, ⊤}
use Rattle.brake_base.specs.declared.mask.Mask.{Mask}
use Rattle.brake_base.specs.declared.stroke.Back.{Back}
use Rattle.brake_base.specs.declared.stroke.Back.TheVariants.{Parent, Child}
use Rattle.brake_base.specs.declared.stroke.Half.{Half}
use Rattle.brake_base.specs.declared.stroke.Half.TheVariants.{Back as BackHalf, Front as FrontHalf}
use Rattle.brake_base.specs.declared.reason.Reason.{Reason}
use Rattle.brake_base.specs.declared.reason.Reason.TheVariants.{Cover, Rest, Frame, Upper, Nose}
use Rattle.brake_base.specs.declared.reason.Reason.TheVariants.{Lower, SelfHit, NoGauge, Load}
use Rattle.brake_base.specs.Reasons.{ReasonIsBefore}
use Rattle.brake_base.specs.Vectors.{origin}
use Rattle.fold_boxes.specs.declared.posed_part.PoseBox.{PoseBox}
use Rattle.fold_boxes.specs.Pose.{PoseData}
use Rattle.job_setup.specs.Setup.{JobData}
use Rattle.job_setup.specs.Reasons.{IsReasonOf, IsReason, IsFirstReason}

-- The first reason of a stroke, of a kind other than NoGauge; nothing exactly where no such reason
-- holds.
abbrev pub IsFirstBeforeNoGauge : JobData → Mask → Mask → Back → ℕ → Option Reason → Type 0
IsFirstBeforeNoGauge job mask group back stage None =
    (reason : Reason) → (reason ≢ NoGauge) → IsReason job mask group back stage reason → ⊥
IsFirstBeforeNoGauge job mask group back stage (Some reason) =
    (reason ≢ NoGauge) × IsFirstReason job mask group back stage reason

-- where a reason's kind stands in the order of reasons
abbrev pub kind_place : Reason → ℕ
kind_place Cover = 1
kind_place (Rest half) = 2
kind_place (Frame box) = 3
kind_place (Upper box quarter index) = 4
kind_place (Nose box quarter stage) = 5
kind_place (Lower box quarter index) = 6
kind_place (SelfHit box quarter other) = 7
kind_place Load = 8
kind_place NoGauge = 9

-- The reason holds in the pose, its kind stands from the first to the last of a range, and no
-- reason from that range's first kind on that holds stands before it.
pub record IsFirstOf (job : JobData) (pose : PoseData) (back : Back) (stage from to : ℕ)
    (reason : Reason) : Type 0 where
  pub low : from ≤ kind_place reason
  pub high : kind_place reason ≤ to
  pub holds : IsReasonOf job pose back stage reason
  pub first : (other : Reason) → from ≤ kind_place other → IsReasonOf job pose back stage other
      → ReasonIsBefore other reason → ⊥

-- The first reason whose kind stands in a range; nothing exactly where none holds.
abbrev pub IsFirstAmong : JobData → PoseData → Back → ℕ → ℕ → ℕ → Option Reason → Type 0
IsFirstAmong job pose back stage from to None =
    (reason : Reason) → from ≤ kind_place reason → kind_place reason ≤ to
    → IsReasonOf job pose back stage reason → ⊥
IsFirstAmong job pose back stage from to (Some reason) =
    IsFirstOf job pose back stage from to reason

-- the side at the back, where the lead's child lies in this half
abbrev pub back_by : Half → Back
back_by BackHalf = Child
back_by FrontHalf = Parent

-- what stands past the last box
abbrev pub no_box : PoseBox
no_box = record { id = 0; half = BackHalf; body = record { lo = origin; hi = origin } }

-- the side at the back, by the half of the box of the lead's child
abbrev pub back_in : List PoseBox → ℕ → Back
back_in boxes lead = back_by (slice_index_or boxes lead no_box).half

-- boxes alone as a pose: the kinds from Frame to SelfHit look at nothing else
abbrev pub pose_of_boxes : List PoseBox → PoseData
pose_of_boxes boxes =
    record {
      bend = 0;
      group = record { 0 = 0 };
      boxes = boxes;
      places = [];
      x0 = pos 0;
      x1 = pos 0;
    }

-- where there is a reason, it doesn't stand before this one
abbrev pub IsNotBefore : Option Reason → Reason → Type 0
IsNotBefore None reason = ⊤
IsNotBefore (Some other) reason = ReasonIsBefore other reason → ⊥

-- Of two reasons the one that stands first; nothing exactly where there are none.
abbrev pub IsEarlier : Option Reason → Option Reason → Option Reason → Type 0
IsEarlier first second None = (first ≡ None) × (second ≡ None)
IsEarlier first second (Some reason) =
    ((first ≡ Some reason) ⊎ (second ≡ Some reason))
    × IsNotBefore first reason × IsNotBefore second reason
