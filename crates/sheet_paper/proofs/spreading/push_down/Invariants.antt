use Rattle.std.proofs.Common.{◌≡◌, ℕ, ℤ, ◌+◌, ◌-◌, ◌*◌, ◌<◌, ◌≤◌, ◌^◌, ◌++◌, take, drop, length, get_or, unsigned_abs}
use Rattle.sheet_paper.specs.Spreading.{pushed_down}
use Rattle.sheet_paper.proofs.spreading.push_down.Given as goal

abbrev pub invariant-loop-done : goal.invariant-loop-done
invariant-loop-done l = record {
  so_far : pushed_down l.most l.gap (take (length l.places - l.done) l.places) ++ drop (length l.places - l.done) l.places ≡ pushed_down l.high l.gap l.initial.places;
  most : unsigned_abs l.most ≤ 2 ^ 57 + l.done * 2 ^ 52;
  near : (k : ℕ) (d : ℤ) → k < length l.places - l.done → unsigned_abs (get_or l.places k d) ≤ 2 ^ 57;
}
