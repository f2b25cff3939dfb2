use Rattle.std.proofs.Common.{◌≡◌, ◌+◌, ◌≤◌, ◌^◌, ℤ, length, unsigned_abs}
use Rattle.std.specs.Prelude.{All}
use Rattle.sheet_figures.proofs.distances.all_distances.Given as goal

abbrev pub invariant-loop-line : goal.invariant-loop-line
invariant-loop-line l = record {
  same : length l.places.items ≡ l.line-index + 2;
  near : All (λ (place : ℤ). unsigned_abs place ≤ 2 ^ 40) l.places.items;
}
