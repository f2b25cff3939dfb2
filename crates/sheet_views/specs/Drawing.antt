-- The drawing of a stroke: which boxes of the part stand in its views, and where the bend line lies.
-- Lengths are in micrometres: x along the bed, y to the back, z up.
use Rattle.std.specs.Prelude.{ℕ, ℤ, ◌+ℤ◌, ◌-ℤ◌, Bool, List, map, slice_index_or}
use Rattle.brake_base.specs.declared.space.Box3.{Box3}
use Rattle.brake_base.specs.declared.mask.Mask.{Mask}
use Rattle.brake_base.specs.declared.stroke.Action.{Action}
use Rattle.brake_base.specs.Boxes.{image}
use Rattle.brake_base.specs.Masks.{has, union}
use Rattle.brake_base.specs.Turns.{stay}
use Rattle.fold_boxes.specs.Folded.{boxes_of}
use Rattle.fold_boxes.specs.Groups.{span}
use Rattle.fold_boxes.specs.Pose.{PoseData, pose_data, is_beyond_some, face_of_box, start_of_span}
use Rattle.job_setup.specs.Setup.{JobData, shape_of}
use Rattle.job_setup.specs.Places.{is_overlap}
use Rattle.job_setup.specs.Reasons.{x_range}
use Rattle.handling_cost.specs.Plan.{pose_before}
use Rattle.sheet_views.specs.declared.part_views.DrawnBox.{DrawnBox}
use Rattle.sheet_views.specs.declared.drawing.Drawing.{Drawing}

-- the box moves with the flange: its face, or for a corner the child of its bend, lies beyond a bend
-- of the group
abbrev pub is_moved : JobData → Mask → ℕ → Bool
is_moved job group id = is_beyond_some job.part.faces (has group) (face_of_box id)

-- the box is in line with the tools: it shares x with the station in use
abbrev pub is_in_line : PoseData → Box3 → Bool
is_in_line pose body = is_overlap (x_range body) (pose.x0, pose.x1)

-- a box of the part as it is drawn
abbrev pub drawn : JobData → PoseData → ℕ → Box3 → DrawnBox
drawn job pose id body = record {
  id = id;
  body = body;
  moves = is_moved job pose.group id;
  in_line = is_in_line pose body;
}

-- The boxes of the part before the stroke: those of its pose.
abbrev pub boxes_before : JobData → Mask → Action → List DrawnBox
boxes_before job mask action =
    let pose = pose_before job mask action in map (λ b. drawn job pose b.id b.body) pose.boxes

-- The boxes of the part after it: those of the part with the group folded too, with face 0 where it
-- lies in the pose.
abbrev pub boxes_after : JobData → Mask → Action → List DrawnBox
boxes_after job mask action =
    let pose = pose_before job mask action in
    let face_0 = slice_index_or pose.places 0 stay in
    map (λ b. drawn job pose b.id (image face_0 b.body))
    (boxes_of (shape_of job) (union mask pose.group))

-- where the bend line begins and ends in x: in the middle of the station, rounded down, and as long
-- as the span of the group
abbrev pub bend_line : JobData → Mask → Action → ℤ × ℤ
bend_line job mask action =
    let pose = pose_before job mask action in
    let lines = span (shape_of job) (has pose.group) in
    let from = start_of_span lines pose.x0 pose.x1 in
    (from, from +ℤ (lines.1 -ℤ lines.0))

-- A drawing over numbers and lists.
pub record DrawingData : Type 0 where
  pub pose : PoseData
  pub line : ℤ × ℤ
  pub before : List DrawnBox
  pub after : List DrawnBox

abbrev pub drawing_data : Drawing → DrawingData
drawing_data drawing = record {
  pose = pose_data drawing.pose;
  line = drawing.line;
  before = drawing.before.items;
  after = drawing.after.items;
}

-- the drawing of an action where the bends of the mask are folded
abbrev pub drawing_of : JobData → Mask → Action → DrawingData
drawing_of job mask action = record {
  pose = pose_before job mask action;
  line = bend_line job mask action;
  before = boxes_before job mask action;
  after = boxes_after job mask action;
}
