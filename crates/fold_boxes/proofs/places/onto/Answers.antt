use Rattle.brake_base.specs.Turns.{after}
use Rattle.fold_boxes.proofs.places.onto.Goals as goal

pub returns-clause-value : goal.returns-clause-value
unfolding after
returns-clause-value c = λ i. record { turn = c.then.ensures.turn i; shift = c.map.ensures.value i }
