use Rattle.std.proofs.Common.{◌≤◌, ◌^◌, unsigned_abs}
use Rattle.sheet_figures.proofs.distances.least_at.Given as goal

abbrev pub invariant-loop-line : goal.invariant-loop-line
invariant-loop-line l = unsigned_abs l.least ≤ 2 ^ 40
