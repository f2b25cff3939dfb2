use Rattle.std.proofs.Common.{◌≡◌, false, get_or, take}
use Rattle.std.specs.List.{list_any}
use Rattle.plan_lines.specs.declared.note.Note.{Note}
use Rattle.sheet_page.specs.Refused.{is_one_row}
use Rattle.sheet_page.proofs.refusal_table.Refusals.is_first_of_row.Given as goal

-- none so far stands in its row
abbrev pub invariant-loop-before : goal.invariant-loop-before
invariant-loop-before l =
    (d : Note) → list_any (λ other. is_one_row l.self.job.now l.self.mask other (get_or l.self.notes.now l.at d)) (take l.before (take l.at l.self.notes.now)) ≡ false
