-- What each bend takes from a face: its core, and where the bend lines lie on it.
use Rattle.std.specs.Prelude.{ℕ, ℤ, pos, ◌+ℤ◌, ◌-ℤ◌, neg_ℤ, int_lt, int_le, Bool, true, false, ◌&&◌}
use Rattle.std.specs.Prelude.{◌||◌, not, List, unwrap_or}
use Rattle.brake_base.specs.declared.space.V3.{V3}
use Rattle.brake_base.specs.Vectors.{vector, plus, times}
use Rattle.part_file.specs.declared.part.Joint.{Joint}
use Rattle.part_file.specs.declared.part.Dir.TheVariants.{Up}
use Rattle.part_file.specs.declared.part.Side.{Side}
use Rattle.part_file.specs.declared.part.Side.TheVariants.{N, E, S, W}
use Rattle.part_file.specs.Part.{FaceData, face_at, joint_at, start, along, outward, is_bent}
use Rattle.unfolder.specs.declared.blank.FlatRect.{FlatRect}
use Rattle.unfolder.specs.declared.blank.BendLine.{BendLine}

-- where a point of the sheet lies in the plane
abbrev pub in_plane : V3 → ℤ × ℤ
in_plane p = (p.x, p.y)

-- a joint where there is none
abbrev pub no_joint : Joint
no_joint = record { on = 0; side = N; at = pos 0; dir = Up }

-- the joint of bend b: that of face b, its child
abbrev pub joint_of : List FaceData → ℕ → Joint
joint_of faces b = unwrap_or (joint_at faces b) no_joint

-- the direction away from the sheet, upwards
abbrev pub z_axis : V3
z_axis = vector (pos 0) (pos 0) (pos 1)

-- the point of a face that lies so far along a side from its start, and so far inside it
abbrev pub side_point : Side → FaceData → ℤ → ℤ → V3
side_point side face distance depth =
    plus (plus (start side face) (times distance (along side))) (times (neg_ℤ depth) (outward side))

-- an amount where a side is bent, and nothing where it isn't
abbrev pub if_bent : Bool → ℤ → ℤ
if_bent true amount = amount
if_bent false amount = pos 0

-- the outside rectangle of face f less an amount at each bent side
abbrev pub face_less : List FaceData → ℤ → ℕ → FlatRect
face_less faces amount f = record {
  x0 = if_bent (is_bent faces f W) amount;
  x1 = (face_at faces f).width -ℤ if_bent (is_bent faces f E) amount;
  y0 = if_bent (is_bent faces f S) amount;
  y1 = (face_at faces f).length -ℤ if_bent (is_bent faces f N) amount;
}

-- the core of face f: what is left of it when it has lost q, half of a bend's deduction, at each
-- bent side
abbrev pub core : List FaceData → ℤ → ℕ → FlatRect
core faces q f = face_less faces q f

-- a size of the rectangle is below 1
abbrev pub is_too_small : FlatRect → Bool
is_too_small r = int_lt (r.x1 -ℤ r.x0) (pos 1) || int_lt (r.y1 -ℤ r.y0) (pos 1)

-- the ends of the line of bend b, in the frame of its parent: q inside the side, over the child's
-- core width
abbrev pub line_start : List FaceData → ℤ → ℕ → V3
line_start faces q b =
    let joint = joint_of faces b in
    side_point joint.side (face_at faces joint.on) (joint.at +ℤ if_bent (is_bent faces b W) q) q

abbrev pub line_end : List FaceData → ℤ → ℕ → V3
line_end faces q b =
    let joint = joint_of faces b in
    side_point joint.side (face_at faces joint.on) ((joint.at
    +ℤ (face_at faces b).width) -ℤ if_bent (is_bent faces b E) q) q

-- that line in the plane of the parent
abbrev pub parent_line : List FaceData → ℤ → ℕ → BendLine
parent_line faces q b = record {
  bend = b;
  from = in_plane (line_start faces q b);
  to = in_plane (line_end faces q b);
  dir = (joint_of faces b).dir;
}

-- the point lies in the rectangle or on its edge
abbrev pub holds : FlatRect → ℤ × ℤ → Bool
holds r p = (int_le r.x0 p.0 && int_le p.0 r.x1) && (int_le r.y0 p.1 && int_le p.1 r.y1)

-- a line of the parent, as far inside the side as the core's edge, isn't within that edge
abbrev pub is_off_edge : FlatRect → BendLine → Bool
is_off_edge parent line = not (holds parent line.from && holds parent line.to)

-- the line of bend b isn't within the core edge of its parent
abbrev pub is_off_face : List FaceData → ℤ → ℕ → Bool
is_off_face faces q b = is_off_edge (core faces q (joint_of faces b).on) (parent_line faces q b)
