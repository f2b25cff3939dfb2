use Rattle.std.proofs.Common.{List, All, ◌<◌, length}
use Rattle.job_setup.specs.Setup.{JobData}
use Rattle.plan_lines.specs.declared.note.Note.{Note}
use Rattle.cert_merge.specs.UnitedRows.{AreNotesOf}
use Rattle.cert_merge.proofs.UnitedRows.{HasPushed}
use Rattle.cert_merge.proofs.united_rows.push_notes.Given as goal

-- the first notes of the text are pushed
abbrev pub invariant-loop-line : goal.invariant-loop-line
invariant-loop-line l = record {
  few : All (λ (note : Note). note.action < 144) l.notes.items;
  pushed : (job : JobData) (own : List Note) → AreNotesOf job l.bends l.stages own l.text → HasPushed job l.bends l.stages own l.initial.notes.items l.notes.items l.rest;
}

abbrev pub decreases-loop-line : goal.decreases-loop-line
decreases-loop-line l = length l.rest
