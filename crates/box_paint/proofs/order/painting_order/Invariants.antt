use Rattle.box_paint.proofs.Orders.{Painted}
use Rattle.box_paint.proofs.order.painting_order.Given as goal

abbrev pub invariant-painting : goal.invariant-painting
invariant-painting l = Painted l.boxes l.taken l.order.items l._step
