-- What a reader keeps of a job.
use Rattle.std.specs.Prelude.{◌≡◌, ℕ, ◌+◌, ◌-◌, ◌≤◌, ◌&&◌, Bool, false, nat_lt, List, length}
use Rattle.std.specs.Prelude.{slice_index_or}
use Rattle.brake_base.specs.declared.mask.Mask.{Mask}
use Rattle.brake_base.specs.Masks.{has}
use Rattle.job_setup.specs.Setup.{JobData, bend_count, stage_count}
use Rattle.job_setup.specs.StrokeGroup.{in_group}
use Rattle.plan_lines.specs.declared.job_facts.JobFacts.{JobFacts}

abbrev pub none_folded : ℕ → Bool
none_folded bend = false

-- the mask holds the lesser bends that are in the bend's group where no bend is folded
abbrev pub AreEarlier : JobData → ℕ → Mask → Type 0
AreEarlier job bend mask =
    (other : ℕ) → has mask other ≡ (nat_lt other bend && in_group job none_folded bend other)

-- a mask for each bend
abbrev pub AreAllEarlier : JobData → List Mask → Type 0
AreAllEarlier job masks =
    (bend : ℕ) (d : Mask) → 1 ≤ bend → bend ≤ bend_count job
    → AreEarlier job bend (slice_index_or masks (bend - 1) d)

-- what is kept of a job
pub record KeepsFacts (facts : JobFacts) (job : JobData) : Type 0 where
  pub bends : facts.bends ≡ bend_count job
  pub few_bends : facts.bends ≤ 12
  pub stages : facts.stages ≡ stage_count job
  pub few_stages : facts.stages ≤ 6
  pub faces : facts.bends + 1 ≡ length job.part.faces
  pub earlier : AreAllEarlier job facts.earlier

-- as many bends and stages as a job may have
pub record HasFew (facts : JobFacts) : Type 0 where
  pub bends : facts.bends ≤ 12
  pub stages : facts.stages ≤ 6
