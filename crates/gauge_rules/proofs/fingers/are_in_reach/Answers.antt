use Rattle.gauge_rules.proofs.fingers.are_in_reach.Goals as goal

pub returns-then-has_edge : goal.returns-then-has_edge
returns-then-has_edge c = (λ yes. record { edge = c.has_edge.ensures.0 c.if-has_edge.true; room = c.has_room.ensures.0 yes }, λ both. c.has_room.ensures.1 both.room)
