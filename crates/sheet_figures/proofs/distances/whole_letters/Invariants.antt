use Rattle.std.proofs.Common.{◌≤◌, ◌+◌, unsigned_abs}
use Rattle.sheet_figures.proofs.distances.whole_letters.Given as goal

abbrev pub invariant-loop-place : goal.invariant-loop-place
invariant-loop-place l = unsigned_abs l.letters ≤ 1 + l._place
