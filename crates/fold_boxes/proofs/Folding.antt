-- The places of the faces, one bend at a time.
use Rattle.std.proofs.Common.{◌≡◌, ℕ, ◌+◌, ◌*◌, ◌<◌, Bool, true, false, cond, List, [], ◌∷◌, ◌++◌, length, get_or, map, Result, Ok, Err, IsOk, refl, sym, ◌∙◌, ap, subst, arith}
use Rattle.std.proofs.lemmas.List.{length-map, get_or-map}
use Rattle.std.proofs.lemmas.List.FromFn.{fill_by_all}
use Rattle.brake_base.specs.declared.space.Box3.{Box3}
use Rattle.brake_base.specs.declared.space.Place.{Place}
use Rattle.brake_base.specs.declared.mask.Mask.{Mask}
use Rattle.brake_base.specs.Vectors.{IsWithin, origin}
use Rattle.brake_base.specs.Turns.{Map, after, stay, map_of}
use Rattle.brake_base.specs.Boxes.{image, IsBoxWithin}
use Rattle.brake_base.specs.Masks.{has}
use Rattle.brake_base.proofs.Vectors.{within_more, box_within_more}
use Rattle.part_file.specs.Part.{half_thickness}
use Rattle.unfolder.specs.declared.blank.UnfoldFault.{UnfoldFault}
use Rattle.unfolder.specs.Cores.{joint_of}
use Rattle.unfolder.specs.Blank.{BlankData, blank_of_part, flat_step}
use Rattle.unfolder.specs.Design.{design_step}
use Rattle.unfolder.proofs.FrameLemmas.{each_pushed}
use Rattle.unfolder.proofs.PlaceLaws.{AreCores, place-root, place-bend}
use Rattle.unfolder.proofs.Unfolded.{cores_of_blank}
use Rattle.fold_boxes.specs.declared.hinge.Hinge.{Hinge}
use Rattle.fold_boxes.specs.Shapes.{ShapeData, IsShape, mould_distance}
use Rattle.fold_boxes.specs.Folded.{place_of, places_of}
use Rattle.fold_boxes.specs.Hinges.{IsHingeOf}
use Rattle.fold_boxes.specs.Places.{IsPlaceOf, ArePlaces}

-- a part that unfolds has cores
pub cores_of_shape : (shape : ShapeData) → IsShape shape → AreCores shape.part.faces shape.q
cores_of_shape shape rules = go (blank_of_part shape.part shape.q) refl rules.unfolds
  where
    go : (r : Result BlankData UnfoldFault) → blank_of_part shape.part shape.q ≡ r → IsOk r → AreCores shape.part.faces shape.q
    go (Ok blank) e h = cores_of_blank shape.part shape.q blank e
    go (Err fault) e h = absurd (cc)

abbrev step : ShapeData → ℕ → Bool → Map
step shape b folded = cond folded (design_step shape.part.faces (half_thickness shape.part) b) (flat_step shape.part.faces shape.q b)

map_of_step : (t : Bool) (folded flat : Place) (f g : Map) → map_of folded ≡ f → map_of flat ≡ g → map_of (cond t folded flat) ≡ cond t f g
map_of_step true folded flat f g e h = e
map_of_step false folded flat f g e h = h

near_step : (t : Bool) (folded flat : Place) (n : ℕ) → IsWithin n folded.at → IsWithin n flat.at → IsWithin n (cond t folded flat).at
near_step true folded flat n p q = p
near_step false folded flat n p q = q

-- the place that the code makes of the parent's place and the hinge
pub next_place : (shape : ShapeData) → IsShape shape → (mask : Mask) (b : ℕ) (kept : Hinge) → 0 < b → b < length shape.part.faces → IsHingeOf shape b kept
    → (parent taken child : Place) → IsPlaceOf shape mask kept.parent parent → taken ≡ cond (has mask b) kept.folded kept.flat → map_of child ≡ after (map_of parent) (map_of taken)
    → ((m n : ℕ) → IsWithin m parent.at → IsWithin n taken.at → IsWithin (m + n) child.at) → IsPlaceOf shape mask b child
next_place shape rules mask b kept some inside is parent taken child parent_is taken_is child_is near =
    let step_is : map_of taken ≡ step shape b (has mask b) = ap map_of taken_is ∙ map_of_step (has mask b) kept.folded kept.flat _ _ is.folded is.flat in
    let on_is : map_of parent ≡ place_of shape mask (joint_of shape.part.faces b).on = parent_is.map ∙ ap (place_of shape mask) is.parent in
    let taken_near : IsWithin 21000000 taken.at = subst (λ (p : Place). IsWithin 21000000 p.at) (sym taken_is) (near_step (has mask b) kept.folded kept.flat 21000000 is.folded_near is.flat_near) in
    record {
      map = child_is ∙ (λ i. after (on_is i) (step_is i)) ∙ sym (place-bend shape.part rules.part shape.q (half_thickness shape.part) (cores_of_shape shape rules) (has mask) b some inside);
      near = within_more (kept.parent * 21000000 + 21000000) (b * 21000000) child.at (omega (arith, is.earlier)) (near (kept.parent * 21000000) 21000000 parent_is.near taken_near);
    }

-- what the code takes of a hinge is as near as the hinge's places
pub taken_near : (shape : ShapeData) (b : ℕ) (kept : Hinge) (t : Bool) (taken : Place) → IsHingeOf shape b kept → taken ≡ cond t kept.folded kept.flat → IsWithin 21000000 taken.at
taken_near shape b kept t taken is e = subst (λ (p : Place). IsWithin 21000000 p.at) (sym e) (near_step t kept.folded kept.flat 21000000 is.folded_near is.flat_near)

-- the places that the code has read
pub read_place : (shape : ShapeData) (mask : Mask) (xs ys : List Place) (i f : ℕ) (d : Place) → ArePlaces shape mask xs → ys ≡ xs → i ≡ f → f < length xs → IsPlaceOf shape mask f (get_or ys i d)
read_place shape mask xs ys i f d are same at inside = subst (λ zs. IsPlaceOf shape mask f (get_or zs i d)) (sym same) (subst (λ n. IsPlaceOf shape mask f (get_or xs n d)) (sym at) (are f d inside))

-- one place more
pub push_place : (shape : ShapeData) (mask : Mask) (xs ys : List Place) (b : ℕ) (place : Place) → ys ≡ xs ++ place ∷ [] → ArePlaces shape mask xs → length xs ≡ b → IsPlaceOf shape mask b place → ArePlaces shape mask ys
push_place shape mask xs ys b place pushed are count here =
    each_pushed (IsPlaceOf shape mask) xs ys place pushed are (subst (λ n. IsPlaceOf shape mask n place) (sym count) here)

-- the root stays where it is
pub root_place : (shape : ShapeData) (mask : Mask) (place : Place) → map_of place ≡ stay → IsWithin 0 place.at → IsPlaceOf shape mask 0 place
root_place shape mask place is near = record {
  map = is ∙ sym (place-root shape.part.faces shape.q (mould_distance shape) (has mask));
  near = near;
}

-- the list of the places, from the places by their indices
pub places_listed : (shape : ShapeData) (mask : Mask) (xs : List Place) → length xs ≡ length shape.part.faces → ArePlaces shape mask xs → map map_of xs ≡ places_of shape mask
places_listed shape mask xs count are =
    fill_by_all (place_of shape mask) (map map_of xs) (length shape.part.faces) stay (length-map xs map_of ∙ count) (λ k inside. at k (omega (arith, inside, count)))
  where
    at : (k : ℕ) → k < length xs → get_or (map map_of xs) k stay ≡ place_of shape mask k
    at k inside =
        let first : Place = record { at = origin; turn = 0 } in
        get_or-map map_of xs k first stay inside ∙ (are k first inside).map

-- the boxes of a place
pub box_at : (shape : ShapeData) (mask : Mask) (f : ℕ) (place : Place) (b c r : Box3) → IsPlaceOf shape mask f place → b ≡ c → r ≡ image (map_of place) b → r ≡ image (place_of shape mask f) c
box_at shape mask f place b c r is same image_is = image_is ∙ (λ i. image (is.map i) (same i))

pub box_near_at : (shape : ShapeData) (mask : Mask) (f : ℕ) (place : Place) (b r : Box3) → f < 13 → IsPlaceOf shape mask f place → IsBoxWithin 22000000 b
    → ((m n : ℕ) → IsWithin m place.at → IsBoxWithin n b → IsBoxWithin (m + n) r) → IsBoxWithin 300000000 r
box_near_at shape mask f place b r few is near within = box_within_more (f * 21000000 + 22000000) 300000000 r (omega arith) (within (f * 21000000) 22000000 is.near near)

-- the place at an index of the list
pub place_at : (shape : ShapeData) (mask : Mask) (xs : List Place) (i f : ℕ) (place : Place) → ArePlaces shape mask xs → place ≡ get_or xs i place → i ≡ f → f < length xs → IsPlaceOf shape mask f place
place_at shape mask xs i f place are is at inside = subst (IsPlaceOf shape mask f) (sym is) (read_place shape mask xs xs i f place are refl at inside)
