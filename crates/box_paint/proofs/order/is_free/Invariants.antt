use Rattle.std.proofs.Common.{◌≡◌, ℕ, ◌<◌}
use Rattle.brake_base.specs.declared.space.Box3.{Box3}
use Rattle.box_paint.specs.Painting.{MustPrecede, IsUnmarked, box_at}
use Rattle.box_paint.proofs.order.is_free.Given as goal

abbrev pub invariant-loop-i : goal.invariant-loop-i
invariant-loop-i l = (j : ℕ) → j < l.i → IsUnmarked l.boxes l.taken j → (d : Box3) → MustPrecede (box_at l.boxes j d) (box_at l.boxes l.number d) → ⊥
