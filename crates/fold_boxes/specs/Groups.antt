-- The bends that may be bent in one stroke, and the range that their lines cover. Lengths are in
-- micrometres.
use Rattle.std.specs.Prelude.{ℕ, ℤ, Bool, true, false, ◌==◌, ◌&&◌, nat_le, nat_lt, List, length}
use Rattle.std.specs.Prelude.{map, filter}
use Rattle.brake_base.specs.declared.space.V3.{V3}
use Rattle.part_file.specs.declared.part.Joint.{Joint}
use Rattle.part_file.specs.declared.part.Dir.{Dir}
use Rattle.part_file.specs.declared.part.Dir.TheVariants.{Up, Down}
use Rattle.part_file.specs.Part.{face_at, start, along, same_side}
use Rattle.unfolder.specs.Cores.{joint_of, line_start, line_end}
use Rattle.unfolder.specs.Blank.{bend_numbers}
use Rattle.unfolder.specs.Extent.{least, greatest}
use Rattle.unfolder.specs.Fold.{dot, minus}
use Rattle.fold_boxes.specs.Shapes.{ShapeData}

abbrev pub same_direction : Dir → Dir → Bool
same_direction Up Up = true
same_direction Down Down = true
same_direction _ _ = false

-- the joints have the same parent, side and direction
abbrev pub same_joint : Joint → Joint → Bool
same_joint a b = (b.on == a.on) && (same_side b.side a.side && same_direction b.dir a.dir)

-- bend c has the parent, the side and the direction of bend b
abbrev pub is_mate : ShapeData → ℕ → ℕ → Bool
is_mate shape b c =
    (nat_le 1 c && nat_lt c (length shape.part.faces))
    && same_joint (joint_of shape.part.faces b) (joint_of shape.part.faces c)

-- how far a point of its parent lies along the side of bend b, from the start of that side
abbrev pub along_side : ShapeData → ℕ → V3 → ℤ
along_side shape b p = let joint = joint_of shape.part.faces b in
    dot (minus p (start joint.side (face_at shape.part.faces joint.on))) (along joint.side)

-- where the line of bend b begins and ends along its parent's side
abbrev pub line_from : ShapeData → ℕ → ℤ
line_from shape b = along_side shape b (line_start shape.part.faces shape.q b)

abbrev pub line_to : ShapeData → ℕ → ℤ
line_to shape b = along_side shape b (line_end shape.part.faces shape.q b)

-- the bends of a set, in order
abbrev pub members : ShapeData → (ℕ → Bool) → List ℕ
members shape set = filter set (bend_numbers shape.part.faces)

-- the span of a group: from the least to the greatest end of its lines, along the side that they
-- share
abbrev pub span : ShapeData → (ℕ → Bool) → ℤ × ℤ
span shape group = (
  least (map (line_from shape) (members shape group)),
  greatest (map (line_to shape) (members shape group)),
)
