-- The bends that are folded at a row.
use Rattle.std.specs.Prelude.{ℕ, ◌^◌, ◌<◌, ◌≤◌, IsTrue}
use Rattle.brake_base.specs.declared.mask.Mask.{Mask}
use Rattle.brake_base.specs.Masks.{has}
use Rattle.job_setup.specs.Setup.{JobData, bend_count}
use Rattle.job_setup.specs.StrokeGroup.{is_lead}
use Rattle.set_facts.specs.Facts.{AreLeads}

-- the leads where the bends of the mask are folded; none where the mask isn't of the job's bends
pub record AreLeadsWithin (job : JobData) (mask leads : Mask) : Type 0 where
  pub all : mask.0 < 2 ^ bend_count job → AreLeads job mask leads
  pub only :
      (bend : ℕ) → 1 ≤ bend → bend ≤ bend_count job → IsTrue (has leads bend)
      → (mask.0 < 2 ^ bend_count job) × IsTrue (is_lead job mask bend)
