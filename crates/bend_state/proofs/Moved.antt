-- What a fold does to the places of the faces, one face after the other.
use Rattle.std.proofs.Common.{◌≡◌, ℕ, zero, suc, ◌+◌, ◌-◌, ◌<◌, ◌≤◌, Bool, true, false, cond, ◌||◌, [], ◌∷◌, length, filter, refl, sym, ◌∙◌, ap, arith}
use Rattle.std.specs.List.{range_with_len}
use Rattle.std.proofs.lemmas.List.{length-append}
use Rattle.brake_base.specs.declared.space.Place.{Place}
use Rattle.brake_base.specs.declared.mask.Mask.{Mask}
use Rattle.brake_base.specs.Turns.{after}
use Rattle.brake_base.specs.Masks.{has, union}
use Rattle.brake_base.proofs.MaskNumbers.{has_mask_of}
use Rattle.part_file.specs.Part.{half_thickness}
use Rattle.unfolder.specs.Cores.{joint_of}
use Rattle.unfolder.specs.Blank.{flat_step}
use Rattle.unfolder.specs.Design.{design_step}
use Rattle.unfolder.proofs.ChainLemmas.{joint_of_part}
use Rattle.unfolder.proofs.PlaceLaws.{place-root, place-bend}
use Rattle.fold_boxes.specs.Shapes.{ShapeData, IsShape, mould_distance}
use Rattle.fold_boxes.specs.Folded.{place_of}
use Rattle.fold_boxes.specs.Places.{IsPlaceOf}
use Rattle.fold_boxes.proofs.Folding.{cores_of_shape}
use Rattle.fold_boxes.proofs.Beyond.{beyond-bend}
use Rattle.fold_boxes.proofs.Picked.{filter_more}
use Rattle.bend_state.specs.State.{moves, moved_before}

neither : (a b : Bool) → (a || b) ≡ false → (a ≡ false) × (b ≡ false)
neither false false h = (refl, refl)
neither false true h = absurd (cc)
neither true b h = absurd (cc)

-- a face that no bend of the group moves stays where it is
unmoved_up_to : (shape : ShapeData) → IsShape shape → (before group : Mask) → (n f : ℕ) → f ≤ n → f < length shape.part.faces → moves shape group f ≡ false → place_of shape before f ≡ place_of shape (union before group) f
unmoved_up_to shape rules before group n zero few inside still = place-root shape.part.faces shape.q (mould_distance shape) (has before) ∙ sym (place-root shape.part.faces shape.q (mould_distance shape) (has (union before group)))
unmoved_up_to shape rules before group zero (suc b) few inside still = absurd (omega arith)
unmoved_up_to shape rules before group (suc n) (suc b) few inside still =
    let limit = rules.part.few_faces in
    let earlier = joint_of_part shape.part rules.part in
    let on = (joint_of shape.part.faces (suc b)).on in
    let low : on < suc b = earlier.on (suc b) (omega arith) inside in
    let parts = neither (has group (suc b)) (moves shape group on) (sym (beyond-bend shape.part.faces (has group) earlier (suc b) (omega arith) inside) ∙ still) in
    let same : has before (suc b) ≡ has (union before group) (suc b) = sym (has_mask_of (λ c. has before c || has group c) (suc b) (omega arith) (omega (arith, inside, limit)) ∙ ap (λ (t : Bool). has before (suc b) || t) parts.0 ∙ or_false (has before (suc b))) in
    let parent = unmoved_up_to shape rules before group n on (omega (arith, low)) (omega (arith, low)) parts.1 in
    let cores = cores_of_shape shape rules in
    let tau = half_thickness shape.part in
    place-bend shape.part rules.part shape.q tau cores (has before) (suc b) (omega arith) inside
    ∙ (λ i. after (parent i) (cond (same i) (design_step shape.part.faces tau (suc b)) (flat_step shape.part.faces shape.q (suc b))))
    ∙ sym (place-bend shape.part rules.part shape.q tau cores (has (union before group)) (suc b) (omega arith) inside)
  where
    or_false : (t : Bool) → (t || false) ≡ t
    or_false true = refl
    or_false false = refl

pub unmoved : (shape : ShapeData) → IsShape shape → (before group : Mask) → (f : ℕ) → f < length shape.part.faces → moves shape group f ≡ false → place_of shape before f ≡ place_of shape (union before group) f
unmoved shape rules before group f inside still = unmoved_up_to shape rules before group f f (omega arith) inside still

pub stays_placed : (shape : ShapeData) → IsShape shape → (before group : Mask) → (f : ℕ) (place : Place) → f < length shape.part.faces → moves shape group f ≡ false → IsPlaceOf shape before f place → IsPlaceOf shape (union before group) f place
stays_placed shape rules before group f place inside still is = record { map = is.map ∙ unmoved shape rules before group f inside still; near = is.near }

pub comes_back : (shape : ShapeData) → IsShape shape → (before group : Mask) → (f : ℕ) (place : Place) → f < length shape.part.faces → moves shape group f ≡ false → IsPlaceOf shape (union before group) f place → IsPlaceOf shape before f place
comes_back shape rules before group f place inside still is = record { map = is.map ∙ sym (unmoved shape rules before group f inside still); near = is.near }

-- how many faces are moved before one, and before the next
counted : (t : Bool) (f : ℕ) → length (cond t (f ∷ []) []) ≡ cond t 1 0
counted true f = refl
counted false f = refl

pub moved_next : (shape : ShapeData) (group : Mask) (f : ℕ) → 0 < f → moved_before shape group (f + 1) ≡ moved_before shape group f + cond (moves shape group f) 1 0
unfolding moved_before
moved_next shape group f some =
    let same : f + 1 - 1 ≡ (f - 1) + 1 = omega arith in
    let test = moves shape group in
    ap (λ n. length (filter test (range_with_len 1 n))) same
    ∙ ap length (filter_more test 1 (f - 1) f (omega arith))
    ∙ length-append (filter test (range_with_len 1 (f - 1))) (cond (test f) (f ∷ []) [])
    ∙ ap (λ n. length (filter test (range_with_len 1 (f - 1))) + n) (counted (test f) f)

pub moved_first : (shape : ShapeData) (group : Mask) → moved_before shape group 1 ≡ 0
unfolding moved_before
moved_first shape group = refl

-- none or one
at_most_one : (t : Bool) → cond t 1 0 ≤ 1
at_most_one true = omega arith
at_most_one false = omega arith

pub moved_few : (shape : ShapeData) (group : Mask) (k : ℕ) → moved_before shape group (suc k) ≤ k
moved_few shape group zero = omega (arith, moved_first shape group)
moved_few shape group (suc k) =
    let same : suc k + 1 ≡ suc (suc k) = omega arith in
    let next = ap (moved_before shape group) (sym same) ∙ moved_next shape group (suc k) (omega arith) in
    omega (arith, next, moved_few shape group k, at_most_one (moves shape group (suc k)))

pub moved_more : (shape : ShapeData) (group : Mask) (f k : ℕ) → 0 < f → moved_before shape group f ≤ moved_before shape group (f + k)
moved_more shape group f zero some = let same : f + zero ≡ f = omega arith in let e = ap (moved_before shape group) same in omega (arith, e)
moved_more shape group f (suc k) some =
    let same : (f + k) + 1 ≡ f + suc k = omega arith in
    let next = ap (moved_before shape group) (sym same) ∙ moved_next shape group (f + k) (omega arith) in
    omega (arith, next, moved_more shape group f k some)
