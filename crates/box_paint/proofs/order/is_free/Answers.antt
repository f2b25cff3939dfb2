use Rattle.std.proofs.Common.{◌≡◌, ◌∙◌, sym, true, false, below_more, arith}
use Rattle.brake_base.specs.declared.space.Box3.{Box3}
use Rattle.box_paint.specs.Painting.{MustPrecede, IsUnmarked, box_at}
use Rattle.box_paint.proofs.Orders.{nowhere}
use Rattle.box_paint.proofs.order.is_free.Goals as goal

pub returns-then-is_awaited : goal.returns-then-is_awaited
returns-then-is_awaited c =
    let found = (c.is_awaited.ensures nowhere).0 c.if-is_awaited.true in
    (λ t. cc, λ free. absurd (free c.loop-i.i (omega arith, found.0) nowhere found.1))

pub loop-i-preserved : goal.loop-i-preserved
loop-i-preserved c =
    below_more (λ k. IsUnmarked c.args.boxes.now c.args.taken.now k → (d : Box3) → MustPrecede (box_at c.args.boxes.now k d) (box_at c.args.boxes.now c.args.number d) → ⊥) _
    c.loop-i.invariant
    (λ u d m. let clash : false ≡ true = sym c.if-is_awaited.false ∙ (c.is_awaited.ensures d).1 (u.1, m) in cc)
