use Rattle.fold_boxes.proofs.Turned.{upright_up, upright_down}
use Rattle.fold_boxes.proofs.hinge.upright.Goals as goal

pub returns-in-Up : goal.returns-in-Up
returns-in-Up c = rw (c.from_number.ensures, c.in-Up.is) upright_up

pub returns-in-Down : goal.returns-in-Down
returns-in-Down c = rw (c.from_number-in-Down.ensures, c.in-Down.is) upright_down
