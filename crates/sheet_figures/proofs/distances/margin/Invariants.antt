use Rattle.std.proofs.Common.{◌≤◌, ◌^◌, unsigned_abs}
use Rattle.sheet_figures.proofs.distances.margin.Given as goal

abbrev pub invariant-loop-at : goal.invariant-loop-at
invariant-loop-at l = unsigned_abs l.most ≤ 2 ^ 11
