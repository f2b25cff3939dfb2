use Rattle.fold_boxes.proofs.Turned.{root_turn}
use Rattle.brake_base.specs.Vectors.{origin}
use Rattle.fold_boxes.proofs.places.root.Goals as goal

pub returns-clause-value : goal.returns-clause-value
returns-clause-value c = let turn = root_turn c.from_number.result c.from_number.ensures in λ i. record { turn = turn i; shift = origin }
