use Rattle.fold_boxes.proofs.Turned.{north, east, south, west}
use Rattle.fold_boxes.proofs.hinge.side_turn.Goals as goal

pub returns-in-N : goal.returns-in-N
returns-in-N c = rw (c.from_number.ensures, c.in-N.is) north

pub returns-in-E : goal.returns-in-E
returns-in-E c = rw (c.from_number-in-E.ensures, c.in-E.is) east

pub returns-in-S : goal.returns-in-S
returns-in-S c = rw (c.from_number-in-S.ensures, c.in-S.is) south

pub returns-in-W : goal.returns-in-W
returns-in-W c = rw (c.from_number-in-W.ensures, c.in-W.is) west
