-- What the code keeps of each bend.
use Rattle.std.specs.Prelude.{◌≡◌, ℕ, ◌+◌, ◌<◌, ℤ, pos, ◌-ℤ◌, ◌*ℤ◌, neg_ℤ, List, map, length}
use Rattle.std.specs.Prelude.{slice_index_or, All}
use Rattle.brake_base.specs.declared.space.Box3.{Box3}
use Rattle.brake_base.specs.Vectors.{vector, plus, times, IsWithin}
use Rattle.brake_base.specs.Turns.{Matrix, map_of}
use Rattle.brake_base.specs.Boxes.{box_of, IsBoxWithin}
use Rattle.part_file.specs.declared.part.Side.{Side}
use Rattle.part_file.specs.declared.part.Dir.{Dir}
use Rattle.part_file.specs.Part.{half_thickness, along, outward}
use Rattle.unfolder.specs.declared.blank.FlatRect.{FlatRect}
use Rattle.unfolder.specs.declared.blank.BendLine.{BendLine}
use Rattle.unfolder.specs.Near.{IsRectWithin}
use Rattle.unfolder.specs.Cores.{joint_of, z_axis, core}
use Rattle.unfolder.specs.Blank.{flat_step, face_numbers}
use Rattle.unfolder.specs.Design.{design_step, fold_sign}
use Rattle.fold_boxes.specs.declared.hinge.Hinge.{Hinge}
use Rattle.fold_boxes.specs.Shapes.{ShapeData, IsShape}
use Rattle.fold_boxes.specs.Folded.{corner_column}

-- the turn of a child that is folded at this side in this direction
abbrev pub folded_matrix : Side → Dir → Matrix
folded_matrix side dir = record {
  x = along side;
  y = times (fold_sign dir) z_axis;
  z = times (neg_ℤ (fold_sign dir)) (outward side);
}

-- the column over a line in the plane of the parent
abbrev pub column_over : Side → BendLine → ℤ → ℤ → Box3
column_over side line q tau =
    let s = fold_sign line.dir in
    box_of
    (plus (vector line.from.0 line.from.1 (pos 0)) (times (s *ℤ neg_ℤ tau) z_axis))
    (plus (plus (vector line.to.0 line.to.1 (pos 0)) (times q (outward side)))
    (times (s *ℤ (q -ℤ tau)) z_axis))

-- what is kept of bend b: its parent, where its child stands on it flat and folded, and the column
-- of its corner
pub record IsHingeOf (shape : ShapeData) (b : ℕ) (hinge : Hinge) : Type 0 where
  pub parent : hinge.parent ≡ (joint_of shape.part.faces b).on
  pub earlier : hinge.parent < b
  pub flat : map_of hinge.flat ≡ flat_step shape.part.faces shape.q b
  pub folded : map_of hinge.folded ≡ design_step shape.part.faces (half_thickness shape.part) b
  pub corner : hinge.corner ≡ corner_column shape b
  pub flat_near : IsWithin 21000000 hinge.flat.at
  pub folded_near : IsWithin 21000000 hinge.folded.at
  pub corner_near : IsBoxWithin 22000000 hinge.corner

-- the hinges of the bends from 1 on, in order
abbrev pub AreHinges : ShapeData → List Hinge → Type 0
AreHinges shape hinges =
    (i : ℕ) (other : Hinge) → i < length hinges
    → IsHingeOf shape (i + 1) (slice_index_or hinges i other)

-- the kept cores and hinges are those of the shape
pub record Keeps (shape : ShapeData) (cores : List FlatRect) (hinges : List Hinge) : Type 0 where
  pub rules : IsShape shape
  pub cores_are : cores ≡ map (core shape.part.faces shape.q) (face_numbers shape.part.faces)
  pub cores_near : All (IsRectWithin 21000000) cores
  pub hinge_count : length hinges + 1 ≡ length shape.part.faces
  pub hinges_are : AreHinges shape hinges
