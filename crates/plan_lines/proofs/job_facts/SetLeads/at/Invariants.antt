use Rattle.std.proofs.Common.{ℕ, ◌≡◌, ◌≤◌, ◌<◌, true}
use Rattle.brake_base.specs.Masks.{has}
use Rattle.job_setup.specs.Setup.{JobData}
use Rattle.job_setup.specs.StrokeGroup.{is_lead}
use Rattle.plan_lines.specs.Facts.{KeepsFacts}
use Rattle.plan_lines.specs.NoteLines.{AreLeads}
use Rattle.plan_lines.proofs.job_facts.SetLeads.at.Given as goal

-- each bend so far is a lead, and each lead among those that were tried is one of them
abbrev pub invariant-loop-bend : goal.invariant-loop-bend
invariant-loop-bend l = record {
  leads : AreLeads l.facts (record { folded = l.folded; leads = l.leads });
  all : (job : JobData) (other : ℕ) → KeepsFacts l.facts job → 1 ≤ other → other < l.bend → is_lead job l.folded other ≡ true → has l.leads other ≡ true;
}
