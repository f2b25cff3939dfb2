use Rattle.std.proofs.Common.{ℕ, ◌-◌, ◌≤◌, List}
use Rattle.plan_lines.specs.NoteLines.{known_reasons, IsRun}
use Rattle.plan_lines.proofs.note_run.take_lines.Given as goal

-- the notes that were taken before and those since are a run
abbrev pub invariant-loop-note : goal.invariant-loop-note
invariant-loop-note l = record {
  few : l.run.count ≤ l.run.least;
  is_run :
      (least : ℕ) (text : List ℕ) → IsRun l.facts (known_reasons l.facts.stages l.notes) l.leads least text l.initial.run
      → IsRun l.facts (known_reasons l.facts.stages l.notes) l.leads least text l.run;
}

abbrev pub decreases-loop-note : goal.decreases-loop-note
decreases-loop-note l = 144 - l.run.least
