use Rattle.gauge_rules.proofs.fingers.are_free.Goals as goal

pub returns-then-is_left_free : goal.returns-then-is_left_free
returns-then-is_left_free c = (λ yes. record { left_free = c.is_left_free.ensures.0 c.if-is_left_free.true; right_free = c.is_right_free.ensures.0 yes }, λ free. c.is_right_free.ensures.1 free.right_free)
