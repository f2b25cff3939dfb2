use Rattle.std.proofs.Common.{◌≡◌, ◌+◌, ℕ, take}
use Rattle.std.specs.Prelude.{count_by}
use Rattle.sheet_page.specs.Kept.{count_in, is_of}
use Rattle.sheet_page.proofs.kept.Counts.add_all.Given as goal

-- the counts so far
abbrev pub invariant-loop-note : goal.invariant-loop-note
invariant-loop-note l = (b k : ℕ) → count_in l.self b k ≡ count_in l.fn.self b k + count_by (is_of l.job b k) (take l.note-index l.notes)
