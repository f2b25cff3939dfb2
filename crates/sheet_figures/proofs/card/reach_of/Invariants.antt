use Rattle.std.proofs.Common.{◌≤◌, ◌^◌, unsigned_abs}
use Rattle.sheet_figures.proofs.card.reach_of.Given as goal

abbrev pub invariant-loop-rect : goal.invariant-loop-rect
invariant-loop-rect l = unsigned_abs l.reach ≤ 2 ^ 40
