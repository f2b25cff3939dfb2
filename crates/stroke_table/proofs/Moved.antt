-- The pose at another range of the bed is the same pose, moved along the bed.
use Rattle.std.proofs.Common.{◌≡◌, ℕ, ℤ, ◌+ℤ◌, List, [], ◌∷◌, map, refl, ◌∙◌, ap, arith}
use Rattle.std.specs.Int.{int_min, int_max}
use Rattle.std.proofs.lemmas.Int.{ints, clamps}
use Rattle.brake_base.specs.declared.space.V3.{V3}
use Rattle.brake_base.specs.declared.space.Box3.{Box3}
use Rattle.brake_base.specs.declared.mask.Mask.{Mask}
use Rattle.brake_base.specs.declared.stroke.Back.{Back}
use Rattle.brake_base.specs.Vectors.{origin}
use Rattle.brake_base.specs.Turns.{Map, multiply, apply, mapped, after}
use Rattle.brake_base.specs.Boxes.{box_of, image}
use Rattle.brake_base.proofs.Vectors.{same_point, same_box}
use Rattle.unfolder.specs.Blank.{face_numbers}
use Rattle.fold_boxes.specs.Shapes.{ShapeData}
use Rattle.fold_boxes.specs.Folded.{place_of}
use Rattle.fold_boxes.specs.Pose.{lead_of, span_start, parent_place, posed, posed_frame, inverse_of, pose_map, half_of, part_body, pose_box, box_ids, posed_place, pose_of}
use Rattle.stroke_table.specs.Moved.{moved_point, moved_body, moved_box, moved_map, moved_pose}

farther : (s t c by : ℤ) → t ≡ s +ℤ by → (t +ℤ c) ≡ ((s +ℤ c) +ℤ by)
farther s t c by is = omega (arith, ints)

farther_sum : (a s by : ℤ) → (a +ℤ (s +ℤ by)) ≡ ((a +ℤ s) +ℤ by)
farther_sum a s by = omega (arith, ints)

mapped_moved : (by : ℤ) (m : Map) (v : V3) → mapped (moved_map by m) v ≡ moved_point by (mapped m v)
unfolding mapped
mapped_moved by m v = same_point _ _ (farther_sum (apply m.turn v).x m.shift.x by) refl refl

after_moved : (by : ℤ) (m g : Map) → after (moved_map by m) g ≡ moved_map by (after m g)
unfolding after
after_moved by m g = λ i. record { turn = multiply m.turn g.turn; shift = mapped_moved by m g.shift i }

least_moved : (a b by : ℤ) → int_min (a +ℤ by) (b +ℤ by) ≡ (int_min a b +ℤ by)
least_moved a b by = omega (arith, ints, clamps)

greatest_moved : (a b by : ℤ) → int_max (a +ℤ by) (b +ℤ by) ≡ (int_max a b +ℤ by)
greatest_moved a b by = omega (arith, ints, clamps)

box_moved : (by : ℤ) (u v : V3) → box_of (moved_point by u) (moved_point by v) ≡ moved_body by (box_of u v)
box_moved by u v = same_box _ _ (same_point _ _ (least_moved u.x v.x by) refl refl) (same_point _ _ (greatest_moved u.x v.x by) refl refl)

image_moved : (by : ℤ) (m : Map) (body : Box3) → image (moved_map by m) body ≡ moved_body by (image m body)
unfolding image
image_moved by m body = (λ i. box_of (mapped_moved by m body.lo i) (mapped_moved by m body.hi i)) ∙ box_moved by (mapped m body.lo) (mapped m body.hi)

each_moved : {X Y Z : Type 0} (f : X → Z) (g : X → Y) (h : Y → Z) → ((x : X) → f x ≡ h (g x)) → (xs : List X) → map f xs ≡ map h (map g xs)
each_moved f g h same [] = refl
each_moved f g h same (x ∷ xs) = λ i. same x i ∷ each_moved f g h same xs i

module _ (shape : ShapeData) (mask group : Mask) (back : Back) (x0 x1 y0 y1 by : ℤ) (starts : span_start shape group y0 y1 ≡ span_start shape group x0 x1 +ℤ by) where
  point_moved : (p : V3) → posed shape group back y0 y1 p ≡ moved_point by (posed shape group back x0 x1 p)
  point_moved p = same_point _ _ (farther (span_start shape group x0 x1) (span_start shape group y0 y1) _ by starts) refl refl

  frame_moved : posed_frame shape group back y0 y1 ≡ moved_map by (posed_frame shape group back x0 x1)
  frame_moved = λ i. record { turn = (posed_frame shape group back x0 x1).turn; shift = point_moved origin i }

  pub map_moved : pose_map shape mask group back y0 y1 ≡ moved_map by (pose_map shape mask group back x0 x1)
  unfolding pose_map
  map_moved =
      let parent = inverse_of (parent_place shape mask (lead_of shape group)) in
      ap (λ (m : Map). after m parent) frame_moved ∙ after_moved by (posed_frame shape group back x0 x1) parent

  pub pose_box_moved : (id : ℕ) → pose_box shape mask group back y0 y1 id ≡ moved_box by (pose_box shape mask group back x0 x1 id)
  pose_box_moved id =
      let body = ap (λ (m : Map). image m (part_body shape mask id)) map_moved ∙ image_moved by (pose_map shape mask group back x0 x1) (part_body shape mask id) in
      λ i. record { id = id; half = half_of shape group back id; body = body i }

  posed_place_moved : (f : ℕ) → posed_place shape mask group back y0 y1 f ≡ moved_map by (posed_place shape mask group back x0 x1 f)
  posed_place_moved f = ap (λ (m : Map). after m (place_of shape mask f)) map_moved ∙ after_moved by (pose_map shape mask group back x0 x1) (place_of shape mask f)

  pub pose_moved : pose_of shape mask group back y0 y1 ≡ moved_pose by y0 y1 (pose_of shape mask group back x0 x1)
  pose_moved =
      let boxes = each_moved (pose_box shape mask group back y0 y1) (pose_box shape mask group back x0 x1) (moved_box by) pose_box_moved (box_ids shape mask) in
      let places = each_moved (posed_place shape mask group back y0 y1) (posed_place shape mask group back x0 x1) (moved_map by) posed_place_moved (face_numbers shape.part.faces) in
      λ i. record { bend = lead_of shape group; group = group; boxes = boxes i; places = places i; x0 = y0; x1 = y1 }
