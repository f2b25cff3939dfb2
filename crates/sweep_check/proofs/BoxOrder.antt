-- The boxes of a pose are few, and stand in ascending order of their numbers.
use Rattle.std.proofs.Common.{ℕ, zero, suc, ◌+◌, ◌-◌, ◌<◌, ◌≤◌, ℤ, Bool, true, false, cond, List, [], ◌∷◌, ◌++◌, map, filter, length, get_or, sym, ◌∙◌, subst, arith}
use Rattle.std.specs.Prelude.{All, AllPairs}
use Rattle.std.specs.List.{range_with_len}
use Rattle.std.proofs.lemmas.List.{get_or-map, length-map, length-append}
use Rattle.std.proofs.lemmas.List.FromFn.{length-range_with_len}
use Rattle.std.proofs.lemmas.List.Kept.{AllPairs-cons, AllPairs-filter}
use Rattle.std.proofs.lemmas.List.Elements.{All-append, All-map}
use Rattle.brake_base.specs.declared.mask.Mask.{Mask}
use Rattle.brake_base.specs.declared.stroke.Back.{Back}
use Rattle.brake_base.specs.Masks.{has}
use Rattle.unfolder.specs.Blank.{face_numbers, bend_numbers}
use Rattle.fold_boxes.specs.declared.posed_part.PoseBox.{PoseBox}
use Rattle.fold_boxes.specs.Shapes.{ShapeData, IsShape}
use Rattle.fold_boxes.specs.Pose.{pose_box, box_ids, pose_of}
use Rattle.fold_boxes.proofs.Picked.{all_numbers, all_picked}

ascending : (a n : ℕ) → AllPairs ◌<◌ (range_with_len a n)
ascending a zero = λ i j d before low. absurd (omega (arith, low))
ascending a (suc n) = AllPairs-cons ◌<◌ a (range_with_len (a + 1) n) (all_numbers (λ k. a < k) (a + 1) n (λ k low high. omega (arith, low))) (ascending (a + 1) n)

pairs_append : {X : Type 0} (R : X → X → Type 0) (xs ys : List X) → AllPairs R xs → AllPairs R ys → All (λ x. All (R x) ys) xs → AllPairs R (xs ++ ys)
pairs_append R [] ys first second across = second
pairs_append R (x ∷ xs) ys first second across =
    AllPairs-cons R x (xs ++ ys)
    (All-append (R x) xs ys (λ k d low. first 0 (suc k) d (omega arith) (omega (arith, low))) (across 0 x (omega arith)))
    (pairs_append R xs ys (λ i j d before low. first (suc i) (suc j) d (omega (arith, before)) (omega (arith, low))) second (λ k d low. across (suc k) d (omega (arith, low))))

pairs_map : {X Y : Type 0} (R : Y → Y → Type 0) (f : X → Y) (d : X) (xs : List X) → AllPairs (λ x y. R (f x) (f y)) xs → AllPairs R (map f xs)
pairs_map R f d xs pairs i j e before low =
    let within : j < length xs = omega (arith, low, length-map xs f) in
    let earlier : i < length xs = omega (arith, within, before) in
    subst (λ y. R y (get_or (map f xs) j e)) (sym (get_or-map f xs i d e earlier)) (subst (R (f (get_or xs i d))) (sym (get_or-map f xs j d e within)) (pairs i j d before within))

ids_ascend : (shape : ShapeData) → IsShape shape → (mask : Mask) → AllPairs ◌<◌ (box_ids shape mask)
ids_ascend shape rules mask =
    let folded = filter (has mask) (bend_numbers shape.part.faces) in
    let bends : AllPairs ◌<◌ folded = AllPairs-filter ◌<◌ (has mask) (bend_numbers shape.part.faces) (ascending 1 (length shape.part.faces - 1)) in
    let corners : All (λ b. 12 < 12 + b) folded = all_picked (λ b. 12 < 12 + b) (has mask) 1 (length shape.part.faces - 1) (λ b some inside folded. omega (arith, some)) in
    pairs_append ◌<◌ (face_numbers shape.part.faces) (map (λ b. 12 + b) folded) (ascending 0 (length shape.part.faces))
    (pairs_map ◌<◌ (λ b. 12 + b) 0 folded (λ i j d before low. let order = bends i j d before low in omega (arith, order)))
    (all_numbers (λ f. All (λ id. f < id) (map (λ b. 12 + b) folded)) 0 (length shape.part.faces) (λ f low inside.
    All-map (λ id. f < id) (λ b. 12 + b) folded (λ k d within. let above = corners k d within in omega (arith, above, inside, rules.part.few_faces))))

-- a pose's boxes stand in ascending order
pub pose_boxes_ascend : (shape : ShapeData) → IsShape shape → (mask group : Mask) (back : Back) (x0 x1 : ℤ) → AllPairs (λ a b. a.id < b.id) (pose_of shape mask group back x0 x1).boxes
pose_boxes_ascend shape rules mask group back x0 x1 = pairs_map (λ (a b : PoseBox). a.id < b.id) (pose_box shape mask group back x0 x1) 0 (box_ids shape mask) (ids_ascend shape rules mask)

picked_few : (p : ℕ → Bool) (a n : ℕ) → length (filter p (range_with_len a n)) ≤ n
picked_few p a zero = omega arith
picked_few p a (suc n) = by_test (p a) (picked_few p (a + 1) n)
  where
    by_test : (t : Bool) → length (filter p (range_with_len (a + 1) n)) ≤ n → length (cond t (a ∷ filter p (range_with_len (a + 1) n)) (filter p (range_with_len (a + 1) n))) ≤ suc n
    by_test true few = omega (arith, few)
    by_test false few = omega (arith, few)

-- there are at most 25 of them
pub pose_boxes_few : (shape : ShapeData) → IsShape shape → (mask group : Mask) (back : Back) (x0 x1 : ℤ) → length (pose_of shape mask group back x0 x1).boxes ≤ 25
pose_boxes_few shape rules mask group back x0 x1 =
    let folded = filter (has mask) (bend_numbers shape.part.faces) in
    let all = length-map (box_ids shape mask) (pose_box shape mask group back x0 x1) ∙ length-append (face_numbers shape.part.faces) (map (λ b. 12 + b) folded) in
    let faces = length-range_with_len 0 (length shape.part.faces) in
    let corners = length-map folded (λ b. 12 + b) in
    let few = picked_few (has mask) 1 (length shape.part.faces - 1) in
    omega (arith, all, faces, corners, few, rules.part.few_faces)
