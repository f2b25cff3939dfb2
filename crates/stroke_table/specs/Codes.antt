-- Codes of reasons at all stages: the least of them is that of the first reason.
use Rattle.std.specs.Prelude.{◌≡◌, ◌⊎◌, ℕ, ◌<◌, ◌≤◌, nat_lt, if◌then◌else◌, List, [], ◌∷◌, length}
use Rattle.std.specs.Prelude.{slice_index, Option, Some, None}
use Rattle.brake_base.specs.declared.mask.Mask.{Mask}
use Rattle.brake_base.specs.declared.stroke.Back.{Back}
use Rattle.brake_base.specs.declared.stroke.Gauge.{Gauge}
use Rattle.brake_base.specs.declared.reason.Reason.{Reason}
use Rattle.brake_base.specs.declared.reason.Reason.TheVariants.{NoGauge}
use Rattle.fold_boxes.specs.declared.posed_part.PoseBox.{PoseBox}
use Rattle.brake_base.specs.Turns.{Map}
use Rattle.fold_boxes.specs.Pose.{PoseData, pose_box, posed_place}
use Rattle.job_setup.specs.Setup.{JobData, shape_of}
use Rattle.job_setup.specs.StageOf.{stage_of}
use Rattle.job_setup.specs.StrokeGroup.{group_of}
use Rattle.job_setup.specs.Reasons.{pose_at, IsReasonOf}
use Rattle.sweep_check.specs.FirstReasons.{kind_place, pose_of_boxes}
use Rattle.stage_lanes.specs.Codes.{code_of, IsCoded}
use Rattle.stroke_table.specs.declared.keys.GroupKey.{GroupKey}
use Rattle.stroke_table.specs.Strokes.{IsFirstAt}

-- the code of the first reason against a stroke at a stage; 65535 exactly where no reason holds
abbrev pub IsFirstCode : JobData → Mask → Mask → Back → ℕ → ℕ → Type 0
IsFirstCode job mask group back stage code =
    ((code ≡ 65535) × IsFirstAt job mask group back stage None)
    ⊎ ((reason : Reason) × IsCoded reason × (code_of reason ≡ code)
    × IsFirstAt job mask group back stage (Some reason))

-- The codes of a stroke at all stages; 65535 past the last of them.
pub record AreCodesOf (job : JobData) (mask : Mask) (lead : ℕ) (back : Back) (codes : List ℕ)
    : Type 0 where
  pub each :
      (stage : ℕ) → stage < length job.setup.stages
      → IsFirstCode job mask (group_of job mask lead) back stage (slice_index codes stage)
  pub past :
      (stage : ℕ) → length job.setup.stages ≤ stage → stage < 8
      → slice_index codes stage ≡ 65535

-- the code of a reason, or that of none
abbrev pub code_for : Option Reason → ℕ
code_for None = 65535
code_for (Some reason) = code_of reason

-- The reason is the one that has the code; nothing where the code is that of none.
pub record IsToldBy (code : ℕ) (found : Option Reason) : Type 0 where
  pub some : (reason : Reason) → IsCoded reason → code_of reason ≡ code → found ≡ Some reason
  pub none : code ≡ 65535 → found ≡ None

-- it is the code of a reason of which this holds, or that of none
abbrev pub IsCodeOfOne : (Reason → Type 0) → ℕ → Type 0
IsCodeOfOne Holds code =
    (code ≡ 65535) ⊎ ((reason : Reason) × Holds reason × (code_of reason ≡ code))

-- Each reason of which this holds has a code, and this is the least of them; 65535 where it holds
-- of none.
pub record IsLeastCode (Holds : Reason → Type 0) (code : ℕ) : Type 0 where
  pub least : (reason : Reason) → Holds reason → IsCoded reason × (code ≤ code_of reason)
  pub one : IsCodeOfOne Holds code

-- At each of the first stages, the least code of the reasons of which this holds there; 65535 past
-- them.
pub record AreLeastCodes (stages : ℕ) (Holds : ℕ → Reason → Type 0) (codes : List ℕ)
    : Type 0 where
  pub each : (stage : ℕ) → stage < stages → IsLeastCode (Holds stage) (slice_index codes stage)
  pub past : (stage : ℕ) → stages ≤ stage → stage < 8 → slice_index codes stage ≡ 65535

-- the reason holds in a pose, and its kind stands from one place to another in the order of reasons
abbrev pub IsAmong : JobData → PoseData → Back → ℕ → ℕ → ℕ → Reason → Type 0
IsAmong job pose back stage from to reason =
    (from ≤ kind_place reason) × (kind_place reason ≤ to) × IsReasonOf job pose back stage reason

-- it is one of these of a stroke at a stage
abbrev pub HoldsAmong : JobData → Mask → GroupKey → ℕ → ℕ → ℕ → Reason → Type 0
HoldsAmong job mask key from to stage =
    IsAmong job (pose_at job mask key.group key.back stage) key.back stage from to

-- it is one of the kinds Frame, Upper, Nose and Lower that a box gives by itself
abbrev pub IsGiven : JobData → PoseBox → Back → ℕ → Reason → Type 0
IsGiven job box back stage = IsAmong job (pose_of_boxes (box ∷ [])) back stage 3 6

-- the box of a number in a stroke at a stage
abbrev pub stroke_box : JobData → Mask → GroupKey → ℕ → ℕ → PoseBox
stroke_box job mask key number stage =
    pose_box (shape_of job) mask key.group key.back (stage_of job stage).x0
    (stage_of job stage).x1 number

-- where a face lies in a stroke at stage 0
abbrev pub stroke_place : JobData → Mask → GroupKey → ℕ → Map
stroke_place job mask key =
    posed_place (shape_of job) mask key.group key.back (stage_of job 0).x0 (stage_of job 0).x1

-- it is one of these of the box of a number in a stroke
abbrev pub IsOfBox : JobData → Mask → GroupKey → ℕ → ℕ → Reason → Type 0
IsOfBox job mask key number stage =
    IsGiven job (stroke_box job mask key number stage) key.back stage

-- the code at the first stages, and past them that of none
abbrev pub at_stages : ℕ → ℕ → ℕ → ℕ
at_stages code stages stage = if nat_lt stage stages then code else 65535

-- no reason stands at some of the first stages
abbrev pub IsFreeSomewhere : List ℕ → ℕ → Type 0
IsFreeSomewhere codes stages =
    (stage : ℕ) × (stage < stages) × (slice_index codes stage ≡ 65535)

-- the reason that a lack of legal pairs is
abbrev pub gauge_reason : Option Gauge → Option Reason
gauge_reason None = Some NoGauge
gauge_reason (Some gauge) = None
