use Rattle.box_paint.proofs.order.must_precede.Goals as goal

pub returns-then-is_further : goal.returns-then-is_further
returns-then-is_further c =
    let both = c.is_further.ensures.0 c.if-is_further.true in
    (λ t. record { shadows = c.shadows_meet.ensures.0 t; further = both.0; mixed = both.1 }, λ h. c.shadows_meet.ensures.1 h.shadows)
