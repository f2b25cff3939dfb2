-- The least bend that is left to fold, and the stages that meet its group.
use Rattle.std.specs.Prelude.{◌≡◌, ℕ, ◌<◌, ◌≤◌, Bool, true, false, List, slice_index_or}
use Rattle.brake_base.specs.declared.mask.Mask.{Mask}
use Rattle.brake_base.specs.Masks.{has}
use Rattle.job_setup.specs.Setup.{JobData, bend_count, stage_count}
use Rattle.job_setup.specs.StrokeGroup.{in_group}
use Rattle.job_setup.specs.StageOf.{stage_of}
use Rattle.job_setup.specs.Reasons.{meets}
use Rattle.handling_cost.specs.Bound.{nearest, meeting_stages}

-- the bend is the job's least that isn't folded
pub record IsFirstLeft (job : JobData) (mask : Mask) (bend : ℕ) : Type 0 where
  pub first : 1 ≤ bend
  pub last : bend ≤ bend_count job
  pub flat : has mask bend ≡ false
  pub least : (b : ℕ) → 1 ≤ b → b < bend → has mask b ≡ true

-- those of the job's stages are marked that meet the group of the bend
abbrev pub AreMeeting : JobData → Mask → ℕ → List Bool → Type 0
AreMeeting job mask bend marked =
    (stage : ℕ) → stage < stage_count job
    → slice_index_or marked stage false
    ≡ meets job (in_group job (has mask) bend) (stage_of job stage)

-- at each of the job's stages the distance to the nearest stage that meets the group of the bend
abbrev pub AreNearest : JobData → Mask → ℕ → List ℕ → Type 0
AreNearest job mask bend ways =
    (stage d : ℕ) → stage < stage_count job
    → slice_index_or ways stage d ≡ nearest stage (meeting_stages job mask bend)

-- two sets have the same bends up to a number
abbrev pub AgreeTo : ℕ → Mask → Mask → Type 0
AgreeTo last s t = (b : ℕ) → 1 ≤ b → b ≤ last → has s b ≡ has t b
