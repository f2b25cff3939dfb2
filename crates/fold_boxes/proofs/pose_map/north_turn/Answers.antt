use Rattle.fold_boxes.proofs.Numbered.{child_up, child_down, parent_up, parent_down}
use Rattle.fold_boxes.proofs.pose_map.north_turn.Goals as goal

pub returns-in-Up : goal.returns-in-Up
returns-in-Up c = rw (c.from_number.ensures, c.in-Up.is, c.in-Child.is) child_up

pub returns-in-Down : goal.returns-in-Down
returns-in-Down c = rw (c.from_number-in-Down.ensures, c.in-Down.is, c.in-Child.is) child_down

pub returns-in-Up-dir : goal.returns-in-Up-dir
returns-in-Up-dir c = rw (c.from_number-in-Up-dir.ensures, c.in-Up-dir.is, c.in-Parent.is) parent_up

pub returns-in-Down-dir : goal.returns-in-Down-dir
returns-in-Down-dir c = rw (c.from_number-in-Down-dir.ensures, c.in-Down-dir.is, c.in-Parent.is) parent_down
