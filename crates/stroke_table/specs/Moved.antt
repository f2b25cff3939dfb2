-- A part on the machine, moved along the bed. Lengths are in micrometres.
use Rattle.std.specs.Prelude.{ℤ, ◌+ℤ◌, map}
use Rattle.brake_base.specs.declared.space.V3.{V3}
use Rattle.brake_base.specs.declared.space.Box3.{Box3}
use Rattle.brake_base.specs.Vectors.{vector}
use Rattle.brake_base.specs.Turns.{Map}
use Rattle.fold_boxes.specs.declared.posed_part.PoseBox.{PoseBox}
use Rattle.fold_boxes.specs.Pose.{PoseData}

-- a point moved by so much
abbrev pub moved_point : ℤ → V3 → V3
moved_point by p = vector (p.x +ℤ by) p.y p.z

abbrev pub moved_body : ℤ → Box3 → Box3
moved_body by body = record { lo = moved_point by body.lo; hi = moved_point by body.hi }

abbrev pub moved_box : ℤ → PoseBox → PoseBox
moved_box by box = record { id = box.id; half = box.half; body = moved_body by box.body }

abbrev pub moved_map : ℤ → Map → Map
moved_map by m = record { turn = m.turn; shift = moved_point by m.shift }

-- the part moved by so much, to another range of the bed
abbrev pub moved_pose : ℤ → ℤ → ℤ → PoseData → PoseData
moved_pose by x0 x1 pose = record {
  bend = pose.bend;
  group = pose.group;
  boxes = map (moved_box by) pose.boxes;
  places = map (moved_map by) pose.places;
  x0 = x0;
  x1 = x1;
}
