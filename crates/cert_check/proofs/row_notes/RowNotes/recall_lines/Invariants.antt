use Rattle.cert_check.specs.KnownNotes.{KnowsSound}
use Rattle.cert_check.proofs.row_notes.RowNotes.recall_lines.Given as goal

abbrev pub invariant-loop-stage : goal.invariant-loop-stage
invariant-loop-stage l = KnowsSound l.job l.self l.lines
