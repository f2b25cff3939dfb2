-- The blank of a part: the cores of its faces laid flat, side by side, with the bend lines.
use Rattle.std.specs.Prelude.{◌≡◌, ℕ, ◌+◌, ◌-◌, ℤ, pos, ◌*ℤ◌, int_lt, Bool, ◌&&◌, List, map}
use Rattle.std.specs.Prelude.{flat_map, find, position, slice_index_or, length, Result, Ok}
use Rattle.std.specs.Prelude.{if◌then◌else◌}
use Rattle.std.specs.Int.{int_min, int_max}
use Rattle.std.specs.List.{range_with_len}
use Rattle.brake_base.specs.declared.space.V3.{V3}
use Rattle.brake_base.specs.Vectors.{vector}
use Rattle.brake_base.specs.Turns.{Matrix, Map, mapped}
use Rattle.toml_fields.specs.Results.{◌>>=◌, refuse_found}
use Rattle.part_file.specs.declared.part.Side.{Side}
use Rattle.part_file.specs.Part.{FaceData, PartData, face_at, along, outward}
use Rattle.unfolder.specs.declared.blank.FlatRect.{FlatRect}
use Rattle.unfolder.specs.declared.blank.FlatFace.{FlatFace}
use Rattle.unfolder.specs.declared.blank.BendLine.{BendLine}
use Rattle.unfolder.specs.declared.blank.Blank.{Blank}
use Rattle.unfolder.specs.declared.blank.UnfoldFault.{UnfoldFault}
use Rattle.unfolder.specs.declared.blank.UnfoldFault.TheVariants.{CoreTooSmall, BendOffFace}
use Rattle.unfolder.specs.declared.blank.UnfoldFault.TheVariants.{FlatOverlap}
use Rattle.unfolder.specs.Cores.{in_plane, joint_of, z_axis, side_point, core, is_too_small}
use Rattle.unfolder.specs.Cores.{parent_line, is_off_face}
use Rattle.unfolder.specs.Chains.{to_root}

-- a blank as its lists of faces and of bend lines
pub record BlankData : Type 0 where
  pub faces : List FlatFace
  pub bends : List BendLine

abbrev pub blank_data : Blank → BlankData
blank_data blank = record { faces = blank.faces.items; bends = blank.bends.items }

-- the turn that takes x to the direction of a side, and y out of the face there
abbrev pub side_matrix : Side → Matrix
side_matrix side = record { x = along side; y = outward side; z = z_axis }

-- from a child's frame to its parent's, where the child lies flat and their cores abut: each lost q
-- at the bend
abbrev pub flat_step : List FaceData → ℤ → ℕ → Map
flat_step faces q b = let joint = joint_of faces b in record {
  turn = side_matrix joint.side;
  shift = side_point joint.side (face_at faces joint.on) joint.at (pos 2 *ℤ q);
}

-- where face f lies in the flat blank, in the coordinates of face 0
abbrev pub flat : List FaceData → ℤ → ℕ → Map
flat faces q f = to_root faces (flat_step faces q) f

-- the image of a rectangle: opposite corners go to opposite corners
abbrev pub flat_image : Map → FlatRect → FlatRect
flat_image m r =
    let a = mapped m (vector r.x0 r.y0 (pos 0)) in
    let c = mapped m (vector r.x1 r.y1 (pos 0)) in
    record {
      x0 = int_min a.x c.x;
      x1 = int_max a.x c.x;
      y0 = int_min a.y c.y;
      y1 = int_max a.y c.y;
    }

-- how many quarter turns about z (x to y) take x to this direction
abbrev pub quarter_turns_to : V3 → ℕ
quarter_turns_to d =
    if int_lt (pos 0) d.x then 0 else if int_lt (pos 0) d.y then 1 else if int_lt d.x (pos 0) then 2
    else 3

-- face f in the blank: its core and how it is turned
abbrev pub flat_face : List FaceData → ℤ → ℕ → FlatFace
flat_face faces q f = record {
  rect = flat_image (flat faces q f) (core faces q f);
  turn = quarter_turns_to (flat faces q f).turn.x;
}

-- the image of a line
abbrev pub line_image : Map → BendLine → BendLine
line_image m line = record {
  bend = line.bend;
  from = in_plane (mapped m (vector line.from.0 line.from.1 (pos 0)));
  to = in_plane (mapped m (vector line.to.0 line.to.1 (pos 0)));
  dir = line.dir;
}

-- bend b in the blank: the image of its line, from the end with the smaller value along the
-- parent's side
abbrev pub bend_line : List FaceData → ℤ → ℕ → BendLine
bend_line faces q b = line_image (flat faces q (joint_of faces b).on) (parent_line faces q b)

-- the numbers of the faces, and those of the bends
abbrev pub face_numbers : List FaceData → List ℕ
face_numbers faces = range_with_len 0 (length faces)

abbrev pub bend_numbers : List FaceData → List ℕ
bend_numbers faces = range_with_len 1 (length faces - 1)

-- the pairs a < b of the first n numbers, in order of a and then b
abbrev pub pairs_below : ℕ → List (ℕ × ℕ)
pairs_below n =
    flat_map (λ a. map (λ b. (a, b)) (range_with_len (a + 1) (n - (a + 1)))) (range_with_len 0 n)

-- the interiors of the rectangles share a point: on each axis the greater lower end is below the
-- smaller upper end
abbrev pub is_overlap_in_x : FlatRect → FlatRect → Bool
is_overlap_in_x r s = int_lt (int_max r.x0 s.x0) (int_min r.x1 s.x1)

abbrev pub is_overlap_in_y : FlatRect → FlatRect → Bool
is_overlap_in_y r s = int_lt (int_max r.y0 s.y0) (int_min r.y1 s.y1)

abbrev pub is_overlap : FlatRect → FlatRect → Bool
is_overlap r s = is_overlap_in_x r s && is_overlap_in_y r s

-- a face of the blank where there is none
abbrev pub no_flat_face : FlatFace
no_flat_face = record { rect = record { x0 = pos 0; x1 = pos 0; y0 = pos 0; y1 = pos 0 }; turn = 0 }

-- two faces of a blank overlap
abbrev pub is_overlap_in : List FlatFace → ℕ × ℕ → Bool
is_overlap_in faces pair =
    is_overlap (slice_index_or faces pair.0 no_flat_face).rect
    (slice_index_or faces pair.1 no_flat_face).rect

-- the cores of all faces, and the faces and the bend lines of the blank, in order
abbrev pub cores_of : List FaceData → ℤ → List FlatRect
cores_of faces q = map (core faces q) (face_numbers faces)

abbrev pub flat_faces : List FaceData → ℤ → List FlatFace
flat_faces faces q = map (flat_face faces q) (face_numbers faces)

abbrev pub bend_lines : List FaceData → ℤ → List BendLine
bend_lines faces q = map (bend_line faces q) (bend_numbers faces)

abbrev pub flat_overlap : ℕ × ℕ → UnfoldFault
flat_overlap pair = FlatOverlap pair.0 pair.1

-- the blank of a part with half deduction q, or the first refusal
unfoldable pub blank_of_part : PartData → ℤ → Result BlankData UnfoldFault
blank_of_part part q = do
  _ ← refuse_found (position is_too_small (cores_of part.faces q)) CoreTooSmall
  _ ← refuse_found (find (is_off_face part.faces q) (bend_numbers part.faces)) BendOffFace
  _ ←
      refuse_found
      (find (is_overlap_in (flat_faces part.faces q))
      (pairs_below (length part.faces))) flat_overlap
  Ok (record { faces = flat_faces part.faces q; bends = bend_lines part.faces q })
