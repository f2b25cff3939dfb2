use Rattle.std.proofs.Common.{ℕ, ◌<◌}
use Rattle.box_paint.specs.Painting.{IsUnmarked}
use Rattle.box_paint.proofs.order.first_left.Given as goal

abbrev pub invariant-loop-i : goal.invariant-loop-i
invariant-loop-i l = (j : ℕ) → j < l.i → IsUnmarked l.boxes l.taken j → ⊥
