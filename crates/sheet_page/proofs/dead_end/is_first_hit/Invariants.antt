use Rattle.std.proofs.Common.{◌≡◌, false, get_or, take}
use Rattle.std.specs.List.{list_any}
use Rattle.plan_lines.specs.declared.note.Note.{Note}
use Rattle.sheet_page.specs.Pictured.{is_one_hit}
use Rattle.sheet_page.specs.Refused.{row_firsts}
use Rattle.sheet_page.proofs.dead_end.is_first_hit.Given as goal

-- none of the first notes so far is of the same bend and box
abbrev pub invariant-loop-before : goal.invariant-loop-before
invariant-loop-before l =
    (d : Note) → list_any (λ other. is_one_hit l.refusals.job.now other (get_or l.refusals.notes.now l.at d)) (row_firsts l.refusals.job.now l.refusals.mask (take l.before l.refusals.notes.now)) ≡ false
