-- Where face 0 lies in a pose is near, since its box is.
use Rattle.std.proofs.Common.{◌≡◌, ℕ, ◌+◌, ◌*◌, ◌^◌, ◌<◌, ◌≤◌, ℤ, ◌+ℤ◌, ◌*ℤ◌, unsigned_abs, map, filter, get_or, length, length-append, sym, subst, ap, ◌∙◌, arith}
use Rattle.std.specs.Int.{int_min, int_max}
use Rattle.std.specs.List.{range_with_len}
use Rattle.std.proofs.Math.ListN.{get_or-append}
use Rattle.std.proofs.lemmas.Int.{ints, clamps}
use Rattle.std.proofs.lemmas.List.{length-map, get_or-map}
use Rattle.std.proofs.lemmas.List.FromFn.{length-range_with_len, get_or-range_with_len, get_or-map-range_with_len}
use Rattle.brake_base.specs.declared.space.V3.{V3}
use Rattle.brake_base.specs.declared.space.Box3.{Box3}
use Rattle.brake_base.specs.declared.mask.Mask.{Mask}
use Rattle.brake_base.specs.declared.stroke.Back.{Back}
use Rattle.brake_base.specs.Vectors.{IsWithin, least, greatest}
use Rattle.brake_base.specs.Turns.{Map, IsTurn, apply, mapped, after, stay}
use Rattle.brake_base.specs.Boxes.{image}
use Rattle.brake_base.specs.Masks.{has}
use Rattle.brake_base.proofs.Images.{axis}
use Rattle.unfolder.specs.Near.{IsWithin as IsNear}
use Rattle.unfolder.specs.Blank.{bend_numbers}
use Rattle.fold_boxes.specs.declared.posed_part.PoseBox.{PoseBox}
use Rattle.fold_boxes.specs.Shapes.{ShapeData, IsShape}
use Rattle.fold_boxes.specs.Folded.{place_of, face_box}
use Rattle.fold_boxes.specs.Pose.{IsGroup, pose_map, pose_box, box_ids, posed_place, pose_of}
use Rattle.fold_boxes.specs.Posing.{IsNearCorner, IsNearPoseBox}
use Rattle.fold_boxes.proofs.PartBounds.{mapped_within, place_within, face_box_within}
use Rattle.fold_boxes.proofs.PoseEffect.{pose_effect}
use Rattle.fold_boxes.proofs.PoseLists.{body_at_face}
use Rattle.fold_boxes.proofs.PosedBoxes.{pose_boxes_near}
use Rattle.fold_boxes.proofs.Turning.{row_within}

-- what is left of a near sum without a near part is near
parted : (a s : ℤ) (m n : ℕ) → unsigned_abs (a +ℤ s) ≤ m → unsigned_abs a ≤ n → unsigned_abs s ≤ m + n
parted a s m n total part = omega (arith, ints, total, part)

-- a turn followed by a shift that takes a near point near has a near shift
shift_within : (m n : ℕ) (f : Map) (v : V3) → IsTurn f.turn → IsWithin n v → IsWithin m (mapped f v) → IsWithin (m + n) f.shift
unfolding mapped apply
shift_within m n f v turn within near =
    let t = f.turn in
    let x = row_within t.x.x t.y.x t.z.x n v (axis t.x.x t.y.x t.z.x turn.x_row) within in
    let y = row_within t.x.y t.y.y t.z.y n v (axis t.x.y t.y.y t.z.y turn.y_row) within in
    let z = row_within t.x.z t.y.z t.z.z n v (axis t.x.z t.y.z t.z.z turn.z_row) within in
    record {
      x = parted ((v.x *ℤ t.x.x +ℤ v.y *ℤ t.y.x) +ℤ v.z *ℤ t.z.x) f.shift.x m n near.x x;
      y = parted ((v.x *ℤ t.x.y +ℤ v.y *ℤ t.y.y) +ℤ v.z *ℤ t.z.y) f.shift.y m n near.y y;
      z = parted ((v.x *ℤ t.x.z +ℤ v.y *ℤ t.y.z) +ℤ v.z *ℤ t.z.z) f.shift.z m n near.z z;
    }

-- what lies between near ends is near
between : (a b : ℤ) (m : ℕ) → unsigned_abs (int_min a b) ≤ m → unsigned_abs (int_max a b) ≤ m → unsigned_abs a ≤ m
between a b m low high = omega (arith, ints, clamps, low, high)

corner_within : (u v : V3) → IsNearCorner (least u v) → IsNearCorner (greatest u v) → IsWithin (2 ^ 31) u
corner_within u v low high = record {
  x = between u.x v.x (2 ^ 31) low.x high.x;
  y = (let y = between u.y v.y 600000000 low.y high.y in omega (arith, y));
  z = (let z = between u.z v.z 600000000 low.z high.z in omega (arith, z));
}

-- the least corner of a box, under a map under which the box is near
image_corner : (f : Map) (b : Box3) → IsNearCorner (image f b).lo → IsNearCorner (image f b).hi → IsWithin (2 ^ 31) (mapped f b.lo)
unfolding image
image_corner f b low high = corner_within (mapped f b.lo) (mapped f b.hi) low high

-- face 0 has the first box and the first place
pub first_box : (shape : ShapeData) (mask group : Mask) (back : Back) (x0 x1 : ℤ) (d : PoseBox) → 0 < length shape.part.faces
    → (0 < length (pose_of shape mask group back x0 x1).boxes) × (get_or (pose_of shape mask group back x0 x1).boxes 0 d ≡ pose_box shape mask group back x0 x1 0)
first_box shape mask group back x0 x1 d some =
    let n = length shape.part.faces in
    let rest = map (λ b. 12 + b) (filter (has mask) (bend_numbers shape.part.faces)) in
    let ids = box_ids shape mask in
    let posed = pose_box shape mask group back x0 x1 in
    let all = length-append (range_with_len 0 n) rest in
    let faces = length-range_with_len 0 n in
    let within : 0 < length (range_with_len 0 n) = omega (arith, faces, some) in
    let inside : 0 < length ids = omega (arith, all, faces, some) in
    let long = length-map ids posed in
    let id : get_or ids 0 0 ≡ 0 = get_or-append (range_with_len 0 n) rest 0 0 within ∙ get_or-range_with_len 0 n 0 0 some in
    (omega (arith, long, inside), get_or-map posed ids 0 0 d inside ∙ ap posed id)

pub first_place : (shape : ShapeData) (mask group : Mask) (back : Back) (x0 x1 : ℤ) → 0 < length shape.part.faces
    → (0 < length (pose_of shape mask group back x0 x1).places) × (get_or (pose_of shape mask group back x0 x1).places 0 stay ≡ posed_place shape mask group back x0 x1 0)
first_place shape mask group back x0 x1 some =
    let n = length shape.part.faces in
    let posed = posed_place shape mask group back x0 x1 in
    let long = length-map (range_with_len 0 n) posed in
    let faces = length-range_with_len 0 n in
    let zero : 0 + 0 ≡ 0 = omega arith in
    (omega (arith, long, faces, some), get_or-map-range_with_len posed 0 n 0 0 stay some zero)

pub face_0_near : (shape : ShapeData) → IsShape shape → (mask group : Mask) → IsGroup shape mask group → (back : Back) (x0 x1 : ℤ) → IsNear 1000000000 x0 → IsNear 1000000000 x1 → 0 < length shape.part.faces
    → IsWithin (2 ^ 39) (posed_place shape mask group back x0 x1 0).shift
unfolding after mapped
face_0_near shape rules mask group is_group back x0 x1 from to some =
    let m = pose_map shape mask group back x0 x1 in
    let turn = (pose_effect shape rules mask group is_group back x0 x1).turn in
    let core = (face_box shape mask 0).body in
    let box = first_box shape mask group back x0 x1 (pose_box shape mask group back x0 x1 0) some in
    let near : IsNearPoseBox (pose_box shape mask group back x0 x1 0) = subst IsNearPoseBox box.1 (pose_boxes_near shape rules mask group is_group back x0 x1 from to 0 _ box.0) in
    let body : image m (face_box shape mask 0).body ≡ (pose_box shape mask group back x0 x1 0).body = ap (image m) (sym (body_at_face shape mask 0 (omega arith))) in
    let low = subst (λ (b : Box3). IsNearCorner b.lo) (sym body) near.lo in
    let high = subst (λ (b : Box3). IsNearCorner b.hi) (sym body) near.hi in
    let shift = shift_within (2 ^ 31) 300000000 m core.lo turn (face_box_within shape rules mask 0 some).lo (image_corner m core low high) in
    let posed = mapped_within (2 ^ 31 + 300000000) (0 * 22000000) m (place_of shape mask 0).shift turn shift (place_within shape rules mask 0 some) in
    within_2_39 _ posed
  where
    within_2_39 : (v : V3) → IsWithin ((2 ^ 31 + 300000000) + 0 * 22000000) v → IsWithin (2 ^ 39) v
    within_2_39 v near = record { x = (let x = near.x in omega (arith, x)); y = (let y = near.y in omega (arith, y)); z = (let z = near.z in omega (arith, z)) }
