-- What the code of a drawing computes on its way: boxes that are marked by a set of faces.
use Rattle.std.specs.Prelude.{ℕ, Bool, List, map}
use Rattle.brake_base.specs.declared.space.Box3.{Box3}
use Rattle.brake_base.specs.Turns.{Map}
use Rattle.brake_base.specs.Boxes.{image}
use Rattle.fold_boxes.specs.declared.part_boxes.PartBox.{PartBox}
use Rattle.fold_boxes.specs.declared.posed_part.PoseBox.{PoseBox}
use Rattle.fold_boxes.specs.Pose.{PoseData, face_of_box}
use Rattle.sheet_views.specs.declared.part_views.DrawnBox.{DrawnBox}
use Rattle.sheet_views.specs.Drawing.{is_in_line}

-- a box as it is drawn where the faces of a set move
abbrev pub marked : (ℕ → Bool) → PoseData → ℕ → Box3 → DrawnBox
marked moves pose id body = record {
  id = id;
  body = body;
  moves = moves (face_of_box id);
  in_line = is_in_line pose body;
}

abbrev pub marked_before : (ℕ → Bool) → PoseData → List PoseBox → List DrawnBox
marked_before moves pose = map (λ b. marked moves pose b.id b.body)

-- boxes of the part under a map
abbrev pub marked_after : (ℕ → Bool) → PoseData → Map → List PartBox → List DrawnBox
marked_after moves pose m = map (λ b. marked moves pose b.id (image m b.body))
