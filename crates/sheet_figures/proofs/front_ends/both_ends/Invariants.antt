use Rattle.std.proofs.Common.{◌≡◌, ◌≤◌, ◌*◌, ◌^◌, ℤ, length, unsigned_abs}
use Rattle.std.specs.Prelude.{All}
use Rattle.sheet_figures.proofs.front_ends.both_ends.Given as goal

abbrev pub invariant-loop-stage : goal.invariant-loop-stage
invariant-loop-stage l = record {
  few : length l.ends.items ≡ 2 * l.stage;
  near : All (λ (end : ℤ). unsigned_abs end ≤ 2 ^ 40) l.ends.items;
}
