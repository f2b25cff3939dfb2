use Rattle.std.proofs.Common.{◌≡◌, ◌*◌, ◌<◌, ◌++◌, drop, All}
use Rattle.plan_lines.specs.declared.note.Note.{Note}
use Rattle.cert_lines.specs.Lines.{lines_text}
use Rattle.plan_cert.proofs.NoteOrder.{Ascend}
use Rattle.plan_cert.proofs.RowTexts.{lines_from}
use Rattle.plan_cert.proofs.rows.put_rows.Given as goal

-- what is written and the text of what is left are the text of all; what is left of the notes are those of the rows to come
abbrev pub invariant-loop-i : goal.invariant-loop-i
invariant-loop-i l = record {
  told : l.out.items ++ lines_text (lines_from l.stages l.i (drop l.i l.rows) l.rest) ≡ l.initial.out.items ++ lines_text (lines_from l.stages 0 l.rows l.initial.rest);
  ascend : Ascend l.i l.rest;
  actions : All (λ (note : Note). note.action < 24 * l.stages) l.rest;
}
