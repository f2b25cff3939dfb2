use Rattle.sweep_check.proofs.named.is_hit_by_nose.Goals as goal

pub returns-then-is_named : goal.returns-then-is_named
returns-then-is_named c = ((λ met. (c.is_named.ensures.0 c.if-is_named.true, c.meets_numbered_nose.ensures.0 met)), (λ both. c.meets_numbered_nose.ensures.1 both.1))
