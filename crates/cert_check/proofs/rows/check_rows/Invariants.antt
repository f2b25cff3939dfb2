use Rattle.std.proofs.Common.{◌≡◌, ◌≤◌, Some, List}
use Rattle.plan_lines.specs.declared.note.Note.{Note}
use Rattle.plan_cert.specs.RowFaults.{RowsAreAccounted}
use Rattle.cert_check.specs.declared.row_notes.NotePlace.{NotePlace}
use Rattle.cert_check.specs.RowNotes.{HasNotes}
use Rattle.cert_check.specs.RowLanes.{IsCheckedSet}
use Rattle.cert_check.proofs.rows.check_rows.Given as goal

abbrev pub invariant-loop-row : goal.invariant-loop-row
invariant-loop-row l = record {
  set : IsCheckedSet l.job l.rows.rows l.set;
  each : (all : List Note) → HasNotes l.job l.rows.rows all l.notes → RowsAreAccounted l.job l.rows.rows all l.row × ((place : NotePlace) → l.notes.unsound ≡ Some place → l.row ≤ place.row);
}
