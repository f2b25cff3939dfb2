-- The lists of a pose: the boxes and the places of the part, one by one under its map.
use Rattle.std.proofs.Common.{◌≡◌, ℕ, zero, suc, ◌+◌, ◌-◌, ◌<◌, ◌≤◌, ℤ, Bool, true, false, cond, nat_le, List, [], ◌∷◌, ◌++◌, map, filter, length, refl, sym, ◌∙◌, ap, arith}
use Rattle.std.specs.Prelude.{if◌then◌else◌}
use Rattle.std.specs.List.{range_with_len}
use Rattle.std.proofs.lemmas.List.{map-append}
use Rattle.std.proofs.lemmas.Bool.{le-leb, lt-leb}
use Rattle.brake_base.specs.declared.space.Place.{Place}
use Rattle.brake_base.specs.declared.mask.Mask.{Mask}
use Rattle.brake_base.specs.declared.stroke.Back.{Back}
use Rattle.brake_base.specs.Turns.{Map, map_of, after}
use Rattle.brake_base.specs.Boxes.{image}
use Rattle.brake_base.specs.Masks.{has}
use Rattle.unfolder.specs.Blank.{face_numbers, bend_numbers}
use Rattle.fold_boxes.specs.Shapes.{ShapeData}
use Rattle.fold_boxes.specs.Folded.{place_of, places_of, face_box, corner_box, boxes_of}
use Rattle.fold_boxes.specs.Pose.{pose_map, face_of_box, half_of_child, half_of_parent, half_by, is_beyond_some, part_body, pose_box, box_ids, posed_place}
use Rattle.fold_boxes.specs.Posing.{moved_box}

map-map : {X Y Z : Type 0} (g : Y → Z) (h : X → Y) (xs : List X) → map g (map h xs) ≡ map (λ x. g (h x)) xs
map-map g h [] = refl
map-map g h (x ∷ xs) = ap (λ ys. g (h x) ∷ ys) (map-map g h xs)

-- two functions that agree on some numbers give the same lists
pub map_alike : {X : Type 0} (f g : ℕ → X) (a n : ℕ) → ((k : ℕ) → a ≤ k → k < a + n → f k ≡ g k) → map f (range_with_len a n) ≡ map g (range_with_len a n)
map_alike f g a zero same = refl
map_alike f g a (suc n) same =
    λ i. same a (omega arith) (omega arith) i ∷ map_alike f g (a + 1) n (λ k low high. same k (omega arith) (omega arith)) i

pub map_picked_alike : {X : Type 0} (f g : ℕ → X) (p : ℕ → Bool) (a n : ℕ) → ((k : ℕ) → a ≤ k → k < a + n → f k ≡ g k)
    → map f (filter p (range_with_len a n)) ≡ map g (filter p (range_with_len a n))
map_picked_alike f g p a zero same = refl
map_picked_alike f g p a (suc n) same =
    by_test (p a) (same a (omega arith) (omega arith)) (map_picked_alike f g p (a + 1) n (λ k low high. same k (omega arith) (omega arith)))
  where
    by_test : (t : Bool) → f a ≡ g a → map f (filter p (range_with_len (a + 1) n)) ≡ map g (filter p (range_with_len (a + 1) n))
        → map f (cond t (a ∷ filter p (range_with_len (a + 1) n)) (filter p (range_with_len (a + 1) n))) ≡ map g (cond t (a ∷ filter p (range_with_len (a + 1) n)) (filter p (range_with_len (a + 1) n)))
    by_test true here rest = λ i. here i ∷ rest i
    by_test false here rest = rest

-- the half of a box is that of its face
half_alike : (set other : ℕ → Bool) (back : Back) (id f : ℕ) → face_of_box id ≡ f → set f ≡ other f → half_by set back id ≡ half_by other back id
half_alike set other back id f at same =
    let tests : set (face_of_box id) ≡ other (face_of_box id) = ap set at ∙ same ∙ sym (ap other at) in
    ap (λ (t : Bool). if t then half_of_child back else half_of_parent back) tests

-- the number of a face, and that of a corner
pub is_face : (f : ℕ) → f ≤ 12 → nat_le f 12 ≡ true
is_face f few = le-leb f 12 few

pub is_corner : (b : ℕ) → 0 < b → nat_le (12 + b) 12 ≡ false
is_corner b some = lt-leb (12 + b) 12 (omega arith)

face_at_face : (f : ℕ) → f ≤ 12 → face_of_box f ≡ f
face_at_face f few = ap (λ (t : Bool). if t then f else f - 12) (is_face f few)

face_at_corner : (b : ℕ) → 0 < b → face_of_box (12 + b) ≡ b
face_at_corner b some = ap (λ (t : Bool). if t then 12 + b else (12 + b) - 12) (is_corner b some) ∙ omega arith

pub body_at_face : (shape : ShapeData) (mask : Mask) (f : ℕ) → f ≤ 12 → part_body shape mask f ≡ (face_box shape mask f).body
body_at_face shape mask f few = ap (λ (t : Bool). if t then (face_box shape mask f).body else (corner_box shape mask (f - 12)).body) (is_face f few)

pub body_at_corner : (shape : ShapeData) (mask : Mask) (b : ℕ) → 0 < b → part_body shape mask (12 + b) ≡ (corner_box shape mask b).body
body_at_corner shape mask b some =
    let back : (12 + b) - 12 ≡ b = omega arith in
    ap (λ (t : Bool). if t then (face_box shape mask (12 + b)).body else (corner_box shape mask ((12 + b) - 12)).body) (is_corner b some)
    ∙ ap (λ n. (corner_box shape mask n).body) back

-- the boxes of the part under the map of a pose are those of the pose
pub boxes_moved : (shape : ShapeData) (mask group : Mask) (back : Back) (x0 x1 : ℤ) (m : Map) (set : ℕ → Bool) → length shape.part.faces ≤ 13 → m ≡ pose_map shape mask group back x0 x1
    → ((f : ℕ) → f < length shape.part.faces → set f ≡ is_beyond_some shape.part.faces (has group) f)
    → map (moved_box m set back) (boxes_of shape mask) ≡ map (pose_box shape mask group back x0 x1) (box_ids shape mask)
boxes_moved shape mask group back x0 x1 m set few same_map same_side =
    let faces = face_numbers shape.part.faces in
    let bends = bend_numbers shape.part.faces in
    let folded = filter (has mask) bends in
    let moved = moved_box m set back in
    let posed = pose_box shape mask group back x0 x1 in
    let beyond = is_beyond_some shape.part.faces (has group) in
    map-append moved (map (face_box shape mask) faces) (map (corner_box shape mask) folded)
    ∙ (λ i. (map-map moved (face_box shape mask) faces ∙ map_alike (λ f. moved (face_box shape mask f)) posed 0 (length shape.part.faces) at_face) i
    ++ (map-map moved (corner_box shape mask) folded ∙ map_picked_alike (λ b. moved (corner_box shape mask b)) (λ b. posed (12 + b)) (has mask) 1 (length shape.part.faces - 1) at_corner
    ∙ sym (map-map posed (λ b. 12 + b) folded)) i)
    ∙ sym (map-append posed faces (map (λ b. 12 + b) folded))
  where
    at_face : (f : ℕ) → 0 ≤ f → f < 0 + length shape.part.faces → moved_box m set back (face_box shape mask f) ≡ pose_box shape mask group back x0 x1 f
    at_face f low inside =
        let half = half_alike set (is_beyond_some shape.part.faces (has group)) back f f (face_at_face f (omega arith)) (same_side f (omega arith)) in
        let body = sym (body_at_face shape mask f (omega arith)) in
        λ i. record { id = f; half = half i; body = image (same_map i) (body i) }

    at_corner : (b : ℕ) → 1 ≤ b → b < 1 + (length shape.part.faces - 1) → moved_box m set back (corner_box shape mask b) ≡ pose_box shape mask group back x0 x1 (12 + b)
    at_corner b low inside =
        let half = half_alike set (is_beyond_some shape.part.faces (has group)) back (12 + b) b (face_at_corner b (omega arith)) (same_side b (omega arith)) in
        let body = sym (body_at_corner shape mask b (omega arith)) in
        λ i. record { id = 12 + b; half = half i; body = image (same_map i) (body i) }

-- the places of the part under the map of a pose
pub places_moved : (shape : ShapeData) (mask group : Mask) (back : Back) (x0 x1 : ℤ) (m : Map) (places : List Place) → map map_of places ≡ places_of shape mask → m ≡ pose_map shape mask group back x0 x1
    → map (λ (p : Place). after m (map_of p)) places ≡ map (posed_place shape mask group back x0 x1) (face_numbers shape.part.faces)
places_moved shape mask group back x0 x1 m places listed same_map =
    sym (map-map (after m) map_of places) ∙ (λ i. map (after (same_map i)) (listed i)) ∙ map-map (after (pose_map shape mask group back x0 x1)) (place_of shape mask) (face_numbers shape.part.faces)
