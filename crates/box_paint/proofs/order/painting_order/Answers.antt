use Rattle.std.proofs.Common.{arith}
use Rattle.box_paint.proofs.Orders.{painted_more, some_left, painted_all, hides_none}
use Rattle.box_paint.proofs.order.painting_order.Goals as goal
use Rattle.box_paint.proofs.order.painting_order.Goals.{in-Some, in_default}

pub painting-preserved : goal.painting-preserved
painting-preserved c =
    elim c.match-next_painted.branch [
      | in-Some w ↦
          rw (w.order-is, w.push.ensures.items, w.taken-is)
          (painted_more c.args.boxes.now c.painting.taken c.painting.order.items c.painting._step w.in-Some.next c.requires.few c.painting.invariant w.in-Some.ensures.some)
      | in_default w ↦
          absurd (some_left c.args.boxes.now c.painting.taken c.painting.order.items c.painting._step c.requires.few c.painting.invariant (omega arith) w.in_default.ensures.none)
    ]

pub returns-clause-law : goal.returns-clause-law
returns-clause-law c =
    hides_none c.args.boxes.now c.painting.order.items
    (painted_all c.args.boxes.now c.painting.taken c.painting.order.items c.painting._step c.painting.invariant (omega arith))
