-- The groups of a job's bends, whatever is folded.
use Rattle.std.specs.Prelude.{◌≡◌, ℕ, ◌-◌, ◌≤◌, List, slice_index_or}
use Rattle.brake_base.specs.declared.mask.Mask.{Mask}
use Rattle.brake_base.specs.Masks.{union}
use Rattle.job_setup.specs.Setup.{JobData, bend_count}
use Rattle.job_setup.specs.StrokeGroup.{group_of}

-- joined with any set of folded bends, these bends make it the set after the bend's stroke
abbrev pub IsFoldedBy : JobData → ℕ → Mask → Type 0
IsFoldedBy job bend group = (mask : Mask) → union mask group ≡ union mask (group_of job mask bend)

-- what the strokes of a job's bends fold, in the order of the bends
abbrev pub AreGroups : JobData → List Mask → Type 0
AreGroups job groups =
    (bend : ℕ) → 1 ≤ bend → bend ≤ bend_count job
    → IsFoldedBy job bend (slice_index_or groups (bend - 1) (record { 0 = 0 }))
