use Rattle.std.proofs.Common.{◌≡◌, ◌≤◌, ◌-◌, length}
use Rattle.std.specs.List.{AllWithin}
use Rattle.sheet_page.proofs.kept.end_of_notes.Given as goal

abbrev pub invariant-loop-end : goal.invariant-loop-end
invariant-loop-end l = record {
  later : l.begin ≤ l.end;
  within : l.end ≤ length l.notes;
  row : AllWithin (λ note. note.row ≡ l.row) l.notes l.begin l.end;
}

abbrev pub decreases-loop-end : goal.decreases-loop-end
decreases-loop-end l = length l.notes - l.end
