use Rattle.std.proofs.Common.{◌≡◌, ◌∙◌, sym, true, false, below_more}
use Rattle.box_paint.specs.Painting.{IsFree, IsUnmarked}
use Rattle.box_paint.proofs.order.first_free.Goals as goal

pub loop-i-preserved : goal.loop-i-preserved
loop-i-preserved c =
    below_more (λ k. IsUnmarked c.args.boxes.now c.args.taken.now k → IsFree c.args.boxes.now (IsUnmarked c.args.boxes.now c.args.taken.now) k → ⊥) _
    c.loop-i.invariant
    (λ u free. let clash : false ≡ true = sym c.if-is_ready.false ∙ c.is_ready.ensures.1 (u, free) in cc)
