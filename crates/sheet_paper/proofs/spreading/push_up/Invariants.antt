use Rattle.std.proofs.Common.{◌≡◌, ◌+◌, ◌*◌, ◌≤◌, ◌^◌, ◌++◌, drop, length, unsigned_abs, ℤ}
use Rattle.std.specs.Prelude.{All}
use Rattle.sheet_paper.specs.Spreading.{pushed_up}
use Rattle.sheet_paper.proofs.spreading.push_up.Given as goal

abbrev pub invariant-loop-place : goal.invariant-loop-place
invariant-loop-place l = record {
  so_far : l.pushed.items ++ pushed_up l.least l.gap (drop l.place-index l.places) ≡ pushed_up l.low l.gap l.places;
  least : unsigned_abs l.least ≤ (l.place-index + 1) * 2 ^ 52;
  few : length l.pushed.items ≡ l.place-index;
  near : All (λ (place : ℤ). unsigned_abs place ≤ 2 ^ 57) l.pushed.items;
}
