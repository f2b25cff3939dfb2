-- What the code of a pose computes on its way, and how large a pose's coordinates are.
use Rattle.std.specs.Prelude.{ℕ, ◌≤◌, ◌^◌, Bool, unsigned_abs}
use Rattle.brake_base.specs.declared.space.V3.{V3}
use Rattle.brake_base.specs.declared.stroke.Back.{Back}
use Rattle.brake_base.specs.Vectors.{IsBelow}
use Rattle.brake_base.specs.Turns.{Map}
use Rattle.brake_base.specs.Boxes.{image}
use Rattle.fold_boxes.specs.declared.part_boxes.PartBox.{PartBox}
use Rattle.fold_boxes.specs.declared.posed_part.PoseBox.{PoseBox}
use Rattle.fold_boxes.specs.Pose.{half_by}

-- a box of the part under the map of a pose
abbrev pub moved_box : Map → (ℕ → Bool) → Back → PartBox → PoseBox
moved_box m is_on_child_side back part_box = record {
  id = part_box.id;
  half = half_by is_on_child_side back part_box.id;
  body = image m part_box.body;
}

-- the shift of the map of a pose
pub record IsNearShift (v : V3) : Type 0 where
  pub x : unsigned_abs v.x ≤ 1600000000
  pub y : unsigned_abs v.y ≤ 300000000
  pub z : unsigned_abs v.z ≤ 300000000

-- x within 2^31 micrometres of 0, y and z within 600,000,000
pub record IsNearCorner (v : V3) : Type 0 where
  pub x : unsigned_abs v.x ≤ 2 ^ 31
  pub y : unsigned_abs v.y ≤ 600000000
  pub z : unsigned_abs v.z ≤ 600000000

pub record IsNearPoseBox (pose_box : PoseBox) : Type 0 where
  pub lo : IsNearCorner pose_box.body.lo
  pub hi : IsNearCorner pose_box.body.hi

-- the box has an interior
abbrev pub IsSolidPoseBox : PoseBox → Type 0
IsSolidPoseBox pose_box = IsBelow pose_box.body.lo pose_box.body.hi
