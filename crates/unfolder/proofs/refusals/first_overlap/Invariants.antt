use Rattle.std.proofs.Common.{◌≡◌, ℕ, ◌+◌, ◌-◌, ◌<◌, length, None}
use Rattle.std.specs.Prelude.{find}
use Rattle.std.specs.List.{range_with_len}
use Rattle.unfolder.specs.Blank.{is_overlap_in}
use Rattle.unfolder.proofs.refusals.first_overlap.Given as goal

abbrev pub invariant-loop-a : goal.invariant-loop-a
invariant-loop-a l = (k : ℕ) → k < l.a → find (λ b. is_overlap_in l.faces (k, b)) (range_with_len (k + 1) (length l.faces - (k + 1))) ≡ None
