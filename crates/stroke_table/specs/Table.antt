-- How the table keeps its strokes.
use Rattle.std.specs.Prelude.{◌≡◌, ℕ, ◌+◌, ◌-◌, ◌*◌, ◌^◌, ◌≤◌, List, length, slice_index}
use Rattle.std.specs.Prelude.{slice_index_or, Option, Some, None}
use Rattle.brake_base.specs.declared.mask.Mask.{Mask}
use Rattle.brake_base.specs.declared.stroke.Back.{Back}
use Rattle.brake_base.specs.declared.stroke.Back.TheVariants.{Parent, Child}
use Rattle.fold_boxes.specs.Pose.{attitude_of}
use Rattle.job_setup.specs.Setup.{JobData, shape_of}
use Rattle.job_setup.specs.StrokeGroup.{group_of}
use Rattle.stage_lanes.specs.declared.codes.StageCodes.{StageCodes}
use Rattle.stroke_table.specs.declared.known.FoundGauge.TheVariants.{Sought}
use Rattle.stroke_table.specs.declared.known.Hold.{Hold}
use Rattle.stroke_table.specs.declared.known.KeptStroke.{KeptStroke}
use Rattle.stroke_table.specs.Codes.{AreCodesOf}
use Rattle.stroke_table.specs.Finding.{IsGaugeOf, IsFoundGauge}

abbrev pub side_number : Back → ℕ
side_number Parent = 0
side_number Child = 1

-- the place of a stroke: each set of folded bends has 24, by the bend and then by the side at the
-- back
abbrev pub place_of : Mask → ℕ → Back → ℕ
place_of mask lead back = 24 * mask.0 + (2 * (lead - 1) + side_number back)

-- the number of places: 24 for each set of a job's bends
abbrev pub place_count : JobData → ℕ
place_count job = 24 * 2 ^ (length job.part.faces - 1)

-- What is kept of a stroke is so.
pub record IsKeptOf (job : JobData) (mask : Mask) (lead : ℕ) (back : Back) (kept : KeptStroke)
    : Type 0 where
  pub attitude : kept.attitude ≡ attitude_of (shape_of job) mask lead back
  pub codes : AreCodesOf job mask lead back kept.found.codes.0
  pub gauge : IsFoundGauge job mask (group_of job mask lead) back kept.found.gauge

-- The attitude of the part in a stroke, and the first legal pair, which is the same at each stage.
pub record IsHoldOf (job : JobData) (mask : Mask) (lead : ℕ) (back : Back) (hold : Hold)
    : Type 0 where
  pub attitude : hold.attitude ≡ attitude_of (shape_of job) mask lead back
  pub gauge : IsGaugeOf job mask (group_of job mask lead) back hold.gauge

-- the stroke that stands at a place has this code at a stage
abbrev pub IsCodeAt : List (Option KeptStroke) → ℕ → ℕ → ℕ → Type 0
IsCodeAt strokes place stage code =
    (kept : KeptStroke) × (slice_index_or strokes place None ≡ Some kept)
    × (slice_index kept.found.codes.0 stage ≡ code)

-- it has these codes
abbrev pub AreCodesAt : List (Option KeptStroke) → ℕ → StageCodes → Type 0
AreCodesAt strokes place codes =
    (kept : KeptStroke) × (slice_index_or strokes place None ≡ Some kept)
    × (kept.found.codes ≡ codes)

-- the part is held so in it
abbrev pub IsHoldAt : List (Option KeptStroke) → ℕ → Hold → Type 0
IsHoldAt strokes place hold =
    (kept : KeptStroke) × (slice_index_or strokes place None ≡ Some kept)
    × (kept.attitude ≡ hold.attitude) × (kept.found.gauge ≡ Sought hold.gauge)

-- There are places for all strokes of the job, which has at most 12 bends, and what
-- stands at a place is so of the stroke whose place that is.
pub record IsTable (job : JobData) (strokes : List (Option KeptStroke)) : Type 0 where
  pub few : length job.part.faces ≤ 13
  pub count : length strokes ≡ place_count job
  pub each :
      (mask : Mask) (lead : ℕ) (back : Back) (kept : KeptStroke) → 1 ≤ lead → lead ≤ 12
      → slice_index_or strokes (place_of mask lead back) None ≡ Some kept
      → IsKeptOf job mask lead back kept
