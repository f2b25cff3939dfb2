-- The part with a set of its bends folded: the place of each face, and the boxes that it fills.
use Rattle.std.specs.Prelude.{ℕ, ◌+◌, ◌≤◌, ◌*ℤ◌, neg_ℤ, List, ◌++◌, map, filter}
use Rattle.brake_base.specs.declared.space.Box3.{Box3}
use Rattle.brake_base.specs.declared.mask.Mask.{Mask}
use Rattle.brake_base.specs.Vectors.{plus, times}
use Rattle.brake_base.specs.Turns.{Map}
use Rattle.brake_base.specs.Boxes.{box_of, image, IsBoxWithin}
use Rattle.brake_base.specs.Masks.{has}
use Rattle.part_file.specs.Part.{half_thickness, outward}
use Rattle.unfolder.specs.Cores.{joint_of, z_axis, core, line_start, line_end}
use Rattle.unfolder.specs.Blank.{face_numbers, bend_numbers}
use Rattle.unfolder.specs.Design.{fold_sign, thick}
use Rattle.unfolder.specs.Fold.{place}
use Rattle.fold_boxes.specs.declared.part_boxes.PartBox.{PartBox}
use Rattle.fold_boxes.specs.Shapes.{ShapeData, mould_distance}

-- where face f lies when the bends of the mask are folded, in the coordinates of face 0
abbrev pub place_of : ShapeData → Mask → ℕ → Map
place_of shape mask f = place shape.part.faces shape.q (mould_distance shape) (has mask) f

-- the places of all faces
abbrev pub places_of : ShapeData → Mask → List Map
places_of shape mask = map (place_of shape mask) (face_numbers shape.part.faces)

-- the core of face f, as thick as the sheet
abbrev pub core_box : ShapeData → ℕ → Box3
core_box shape f = thick (half_thickness shape.part) (core shape.part.faces shape.q f)

-- The column that covers bend b when it is folded, in the frame of its parent: along the bend's
-- line, from the core's edge to q beyond it, and from tau on the one side of the mid-plane to h on
-- that to which the bend folds.
abbrev pub corner_column : ShapeData → ℕ → Box3
corner_column shape b =
    let joint = joint_of shape.part.faces b in
    let s = fold_sign joint.dir in
    box_of
    (plus (line_start shape.part.faces shape.q b)
    (times (s *ℤ neg_ℤ (half_thickness shape.part)) z_axis))
    (plus (plus (line_end shape.part.faces shape.q b) (times shape.q (outward joint.side)))
    (times (s *ℤ mould_distance shape) z_axis))

-- the box of face f
abbrev pub face_box : ShapeData → Mask → ℕ → PartBox
face_box shape mask f = record { id = f; body = image (place_of shape mask f) (core_box shape f) }

-- the box of the corner of bend b, where it is folded
abbrev pub corner_box : ShapeData → Mask → ℕ → PartBox
corner_box shape mask b = record {
  id = 12 + b;
  body = image (place_of shape mask (joint_of shape.part.faces b).on) (corner_column shape b);
}

-- the boxes of all faces, and those of the corners of the folded bends
abbrev pub boxes_of : ShapeData → Mask → List PartBox
boxes_of shape mask =
    map (face_box shape mask) (face_numbers shape.part.faces)
    ++ map (corner_box shape mask) (filter (has mask) (bend_numbers shape.part.faces))

-- within 300,000,000 micrometres of the origin
abbrev pub IsNearBox : PartBox → Type 0
IsNearBox part_box = IsBoxWithin 300000000 part_box.body

-- the number of a box: of a face up to 12, or of a corner up to 24
abbrev pub IsBoxId : PartBox → Type 0
IsBoxId part_box = part_box.id ≤ 24
