use Rattle.std.proofs.Common.{◌↔◌, IsTrue, subst}
use Rattle.brake_base.specs.declared.space.Box3.{Box3}
use Rattle.brake_base.specs.Boxes.{ShareInterior}
use Rattle.box_paint.specs.Painting.{shadow}
use Rattle.box_paint.proofs.order.shadows_meet.Goals as goal

pub returns : goal.returns
returns c =
    subst (λ (s : Box3). IsTrue c.overlap.result ↔ ShareInterior s (shadow c.args.b.now)) c.shadow.ensures
    (subst (λ (s : Box3). IsTrue c.overlap.result ↔ ShareInterior c.shadow.result s) c.shadow-2.ensures c.overlap.ensures.point)
