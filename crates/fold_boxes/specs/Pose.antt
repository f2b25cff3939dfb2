-- The part on the machine before a stroke. The machine's axes are x along the bed, y to the back
-- and z up. Lengths are in micrometres.
use Rattle.std.specs.Prelude.{◌≡◌, ◌⊎◌, ℕ, zero, suc, ◌+◌, ◌-◌, ◌<◌, ℤ, pos, negsuc, ◌+ℤ◌, ◌-ℤ◌, ◌*ℤ◌, neg_ℤ}
use Rattle.std.specs.Prelude.{int_le, nat_le, Bool, false, ◌&&◌, ◌||◌, IsTrue, List, ◌++◌, map, length}
use Rattle.std.specs.Prelude.{filter, find, unwrap_or, if◌then◌else◌}
use Rattle.std.specs.Int.{int_min, int_div_euclid}
use Rattle.std.specs.List.{range_with_len}
use Rattle.brake_base.specs.declared.space.V3.{V3}
use Rattle.brake_base.specs.declared.space.Box3.{Box3}
use Rattle.brake_base.specs.declared.mask.Mask.{Mask}
use Rattle.brake_base.specs.declared.stroke.Back.{Back}
use Rattle.brake_base.specs.declared.stroke.Back.TheVariants.{Parent, Child}
use Rattle.brake_base.specs.declared.stroke.Half.{Half}
use Rattle.brake_base.specs.Vectors.{vector, times, origin}
use Rattle.brake_base.specs.Turns.{Matrix, Map, IsTurn, identity, transpose, multiply, apply}
use Rattle.brake_base.specs.Turns.{turn_of, mapped, after, map_of}
use Rattle.brake_base.specs.Boxes.{image}
use Rattle.brake_base.specs.Masks.{has}
use Rattle.part_file.specs.declared.part.Side.{Side}
use Rattle.part_file.specs.declared.part.Dir.{Dir}
use Rattle.part_file.specs.Part.{FaceData, face_at, half_thickness, along, outward}
use Rattle.unfolder.specs.Cores.{joint_of, z_axis, side_point, line_start, line_end}
use Rattle.unfolder.specs.Blank.{face_numbers, bend_numbers}
use Rattle.unfolder.specs.Design.{fold_sign}
use Rattle.unfolder.specs.Fold.{dot, minus}
use Rattle.fold_boxes.specs.declared.part_boxes.PartBox.{PartBox}
use Rattle.fold_boxes.specs.declared.posed_part.PoseBox.{PoseBox}
use Rattle.fold_boxes.specs.declared.posed_part.Pose.{Pose}
use Rattle.fold_boxes.specs.Shapes.{ShapeData}
use Rattle.fold_boxes.specs.Groups.{is_mate, along_side, span}
use Rattle.fold_boxes.specs.Folded.{place_of, face_box, corner_box}

-- the lead of a group: its least bend
abbrev pub lead_of : ShapeData → Mask → ℕ
lead_of shape group = unwrap_or (find (has group) (bend_numbers shape.part.faces)) 0

-- Bends that may be bent in one stroke where those of the mask are folded: some bends, none of them
-- folded, all with the parent, the side and the direction of the lead.
pub record IsGroup (shape : ShapeData) (mask group : Mask) : Type 0 where
  pub some : IsTrue (has group (lead_of shape group))
  pub mates : (b : ℕ) → IsTrue (has group b) → IsTrue (is_mate shape (lead_of shape group) b)
  pub flat : (b : ℕ) → IsTrue (has group b) → has mask b ≡ false

-- the direction towards the backgauge
abbrev pub y_axis : V3
y_axis = vector (pos 0) (pos 1) (pos 0)

-- 1 where the child's side of the bend is at the back, -1 where the parent's side is
abbrev pub back_sign : Back → ℤ
back_sign Child = pos 1
back_sign Parent = negsuc 0

-- where a span begins in x: it lies in the middle of the range from x0 to x1, rounded down
abbrev pub start_of_span : ℤ × ℤ → ℤ → ℤ → ℤ
start_of_span lines x0 x1 = x0 +ℤ int_div_euclid ((x1 -ℤ x0) -ℤ (lines.1 -ℤ lines.0)) (pos 2)

abbrev pub span_start : ShapeData → Mask → ℤ → ℤ → ℤ
span_start shape group = start_of_span (span shape (has group))

-- where the parent of a bend lies
abbrev pub parent_place : ShapeData → Mask → ℕ → Map
parent_place shape mask b = place_of shape mask (joint_of shape.part.faces b).on

-- the end of a group's span that lies so far along the side, in the frame of its parent
abbrev pub span_end : ShapeData → Mask → ℤ → V3
span_end shape group distance =
    let joint = joint_of shape.part.faces (lead_of shape group) in
    side_point joint.side (face_at shape.part.faces joint.on) distance shape.q

-- where a map takes what lies there in the frame of the lead's parent
abbrev pub taken : ShapeData → Mask → Mask → Map → V3 → V3
taken shape mask group m v = mapped m (mapped (parent_place shape mask (lead_of shape group)) v)

-- The map of a pose, by its effect on the placed frame of the lead's parent. Its turn takes the
-- direction in which the bends fold upwards, and that out of their side to the back or to the
-- front. It brings the group's lines to y = 0, the parent's mid-plane half the thickness below z =
-- 0, and the lower end of the span to the span's start.
pub record IsPoseMap (shape : ShapeData) (mask group : Mask) (back : Back) (x0 x1 : ℤ) (m : Map)
    : Type 0 where
  pub turn : IsTurn m.turn
  pub upwards :
      apply m.turn
      (apply (parent_place shape mask (lead_of shape group)).turn
      (times (fold_sign (joint_of shape.part.faces (lead_of shape group)).dir) z_axis))
      ≡ z_axis
  pub backwards :
      apply m.turn
      (apply (parent_place shape mask (lead_of shape group)).turn
      (outward (joint_of shape.part.faces (lead_of shape group)).side))
      ≡ times (back_sign back) y_axis
  pub line_starts :
      (b : ℕ) → IsTrue (has group b)
      → (taken shape mask group m (line_start shape.part.faces shape.q b)).y ≡ pos 0
  pub line_ends :
      (b : ℕ) → IsTrue (has group b)
      → (taken shape mask group m (line_end shape.part.faces shape.q b)).y ≡ pos 0
  pub level :
      (v : V3) → v.z ≡ pos 0 → (taken shape mask group m v).z ≡ neg_ℤ (half_thickness shape.part)
  pub left :
      int_min (taken shape mask group m (span_end shape group (span shape (has group)).0)).x
      (taken shape mask group m (span_end shape group (span shape (has group)).1)).x
      ≡ span_start shape group x0 x1

-- where a pose points a direction of the frame of a face that is bent at this side in this
-- direction
abbrev pub pointed : Side → Dir → Back → V3 → V3
pointed side dir back v =
    vector ((back_sign back *ℤ fold_sign dir) *ℤ dot v (along side))
    (back_sign back *ℤ dot v (outward side)) (fold_sign dir *ℤ v.z)

-- the turn of that frame
abbrev pub frame_turn : Side → Dir → Back → Matrix
frame_turn side dir back = record {
  x = pointed side dir back identity.x;
  y = pointed side dir back identity.y;
  z = pointed side dir back identity.z;
}

-- Where a pose has a point of the frame of the lead's parent: as far along the bed from the span's
-- start as it lies along the side from that end of the span which comes to the left, as far to the
-- back or the front as it lies beyond the lines, and as far above the mid-plane as it lies on the
-- side to which the bends fold.
abbrev pub posed : ShapeData → Mask → Back → ℤ → ℤ → V3 → V3
posed shape group back x0 x1 p =
    let b = lead_of shape group in
    let joint = joint_of shape.part.faces b in
    let s = fold_sign joint.dir in
    let k = back_sign back *ℤ s in
    let lines = span shape (has group) in
    vector
    (span_start shape group x0 x1
    +ℤ (k *ℤ along_side shape b p -ℤ int_min (k *ℤ lines.0) (k *ℤ lines.1)))
    (back_sign back *ℤ dot (minus p (line_start shape.part.faces shape.q b)) (outward joint.side))
    (s *ℤ p.z -ℤ half_thickness shape.part)

-- where a pose has the frame of the lead's parent
abbrev pub posed_frame : ShapeData → Mask → Back → ℤ → ℤ → Map
posed_frame shape group back x0 x1 =
    let joint = joint_of shape.part.faces (lead_of shape group) in record {
      turn = frame_turn joint.side joint.dir back;
      shift = posed shape group back x0 x1 origin;
    }

-- the map that takes a thing back from where a map took it
abbrev pub inverse_of : Map → Map
inverse_of m = record {
  turn = transpose m.turn;
  shift = times (negsuc 0) (apply (transpose m.turn) m.shift);
}

-- the map of a pose, from the coordinates of face 0 to those of the machine; IsPoseMap holds of it
-- alone
unfoldable pub pose_map : ShapeData → Mask → Mask → Back → ℤ → ℤ → Map
pose_map shape mask group back x0 x1 =
    after (posed_frame shape group back x0 x1)
    (inverse_of (parent_place shape mask (lead_of shape group)))

-- the turn of face 0 in the poses of a bend, which is that of their maps
unfoldable pub attitude_turn : ShapeData → Mask → ℕ → Back → Matrix
attitude_turn shape mask b back =
    let joint = joint_of shape.part.faces b in
    multiply (frame_turn joint.side joint.dir back) (transpose (parent_place shape mask b).turn)

abbrev pub same_number : ℤ → ℤ → Bool
same_number a b = int_le a b && int_le b a

abbrev pub same_entries : V3 → V3 → Bool
same_entries u v = (same_number u.x v.x && same_number u.y v.y) && same_number u.z v.z

abbrev pub same_turn : Matrix → Matrix → Bool
same_turn f g = (same_entries f.x g.x && same_entries f.y g.y) && same_entries f.z g.z

-- the number of a turn, from 0 to 23
unfoldable pub turn_number : Matrix → ℕ
turn_number m = unwrap_or (find (λ n. same_turn (turn_of n) m) (range_with_len 0 24)) 0

-- the number of the turn of face 0 in the poses of a bend
abbrev pub attitude_of : ShapeData → Mask → ℕ → Back → ℕ
attitude_of shape mask b back = turn_number (attitude_turn shape mask b back)

-- a bend of the set is among the first n on the way from face f to the root
abbrev pub is_on_way : List FaceData → (ℕ → Bool) → ℕ → ℕ → Bool
is_on_way faces set n zero = false
is_on_way faces set zero (suc f) = false
is_on_way faces set (suc n) (suc f) =
    set (suc f) || is_on_way faces set n (joint_of faces (suc f)).on

-- face f lies beyond some bend of the set
unfoldable pub is_beyond_some : List FaceData → (ℕ → Bool) → ℕ → Bool
is_beyond_some faces set f = is_on_way faces set f f

-- the face whose half a box shares: its own, or for a corner the child of its bend
abbrev pub face_of_box : ℕ → ℕ
face_of_box id = if nat_le id 12 then id else id - 12

-- the half of the child's side, and the other half
abbrev pub half_of_child : Back → Half
half_of_child Child = Half.Back
half_of_child Parent = Half.Front

abbrev pub half_of_parent : Back → Half
half_of_parent Child = Half.Front
half_of_parent Parent = Half.Back

-- the half of a box, where these faces are on the child's side
abbrev pub half_by : (ℕ → Bool) → Back → ℕ → Half
half_by is_on_child_side back id =
    if is_on_child_side (face_of_box id) then half_of_child back else half_of_parent back

-- the half of a box in a pose: what lies beyond some bend of the group is on the child's side
abbrev pub half_of : ShapeData → Mask → Back → ℕ → Half
half_of shape group = half_by (is_beyond_some shape.part.faces (has group))

-- the box of this number in the coordinates of face 0: of a face, or of a folded bend's corner
abbrev pub part_body : ShapeData → Mask → ℕ → Box3
part_body shape mask id =
    if nat_le id 12 then (face_box shape mask id).body else (corner_box shape mask (id - 12)).body

-- the same with its number
abbrev pub part_box : ShapeData → Mask → ℕ → PartBox
part_box shape mask id = record { id = id; body = part_body shape mask id }

-- the box of this number in a pose
abbrev pub body_of : ShapeData → Mask → Mask → Back → ℤ → ℤ → ℕ → Box3
body_of shape mask group back x0 x1 id =
    image (pose_map shape mask group back x0 x1) (part_body shape mask id)

abbrev pub pose_box : ShapeData → Mask → Mask → Back → ℤ → ℤ → ℕ → PoseBox
pose_box shape mask group back x0 x1 id = record {
  id = id;
  half = half_of shape group back id;
  body = body_of shape mask group back x0 x1 id;
}

-- the number of a box of the part where the bends of the mask are folded: a face's, or that of a
-- folded bend's corner
abbrev pub IsNumberOfBox : ShapeData → Mask → ℕ → Type 0
IsNumberOfBox shape mask box =
    (box < length shape.part.faces)
    ⊎ ((c : ℕ) × (0 < c) × (c < length shape.part.faces) × IsTrue (has mask c) × (box ≡ 12 + c))

-- the numbers of the boxes: those of the faces, and 12 + b for each folded bend b
abbrev pub box_ids : ShapeData → Mask → List ℕ
box_ids shape mask =
    face_numbers shape.part.faces
    ++ map (λ b. 12 + b) (filter (has mask) (bend_numbers shape.part.faces))

-- where face f lies in a pose
abbrev pub posed_place : ShapeData → Mask → Mask → Back → ℤ → ℤ → ℕ → Map
posed_place shape mask group back x0 x1 f =
    after (pose_map shape mask group back x0 x1) (place_of shape mask f)

-- a pose as its numbers and lists
pub record PoseData : Type 0 where
  pub bend : ℕ
  pub group : Mask
  pub boxes : List PoseBox
  pub places : List Map
  pub x0 : ℤ
  pub x1 : ℤ

abbrev pub pose_data : Pose → PoseData
pose_data pose = record {
  bend = pose.bend;
  group = pose.group;
  boxes = pose.boxes.items;
  places = map map_of pose.places.items;
  x0 = pose.x0;
  x1 = pose.x1;
}

-- the pose of a group where the bends of the mask are folded: the part's boxes and places under the
-- one map
abbrev pub pose_of : ShapeData → Mask → Mask → Back → ℤ → ℤ → PoseData
pose_of shape mask group back x0 x1 = record {
  bend = lead_of shape group;
  group = group;
  boxes = map (pose_box shape mask group back x0 x1) (box_ids shape mask);
  places = map (posed_place shape mask group back x0 x1) (face_numbers shape.part.faces);
  x0 = x0;
  x1 = x1;
}
