use Rattle.std.proofs.Common.{◌≤◌, ◌+◌, ◌*◌, unsigned_abs}
use Rattle.sheet_figures.proofs.distances.bends_letters.Given as goal

abbrev pub invariant-loop-bend : goal.invariant-loop-bend
invariant-loop-bend l = unsigned_abs l.letters ≤ 4 + l.bend-index * 4
