-- The least rectangle that holds all faces.
use Rattle.std.proofs.Common.{◌≡◌, ◌⊎◌, inl, inr, suc, ◌<◌, ℤ, ◌≤ℤ◌, List, [], ◌∷◌, map, length, get_or, refl, sym, ◌∙◌, subst, arith}
use Rattle.std.specs.Prelude.{All, Any, Contains, fold}
use Rattle.std.specs.Int.{int_min, int_max}
use Rattle.std.proofs.lemmas.Int.{fold-int_min_bounds, fold-int_min_reached, fold-int_max_bounds, fold-int_max_reached}
use Rattle.std.proofs.lemmas.List.{get_or-map, get_or_default, length-map}
use Rattle.std.proofs.lemmas.List.Elements.{All-cons}
use Rattle.unfolder.specs.declared.blank.FlatRect.{FlatRect}
use Rattle.unfolder.specs.declared.blank.FlatFace.{FlatFace}
use Rattle.unfolder.specs.Extent.{extent_of, IsExtent, IsNear, IsNearRect}

all_of_map : (P : ℤ → Type 0) (g : FlatFace → ℤ) (faces : List FlatFace) → All P (map g faces) → All (λ face. P (g face)) faces
all_of_map P g faces all k d inside = subst P (get_or-map g faces k d (g d) inside) (all k (g d) (let e = length-map faces g in omega arith))

-- some element of the mapped list is the number
any_of_map : (g : FlatFace → ℤ) (face : FlatFace) (faces : List FlatFace) (r : ℤ) → (r ≡ g face) ⊎ Contains (map g faces) r → Any (λ other. g other ≡ r) (face ∷ faces)
any_of_map g face faces r (inl e) = (0, face, omega arith, refl, sym e)
any_of_map g face faces r (inr (k, inside, e)) =
    let below : k < length faces = let long = length-map faces g in omega arith in
    (suc k, get_or faces k face, omega arith, get_or_default faces k (get_or faces k face) face below, sym (get_or-map g faces k face r below) ∙ e)

-- the least of a side over the faces
pub least_side : (g : FlatFace → ℤ) (face : FlatFace) (faces : List FlatFace) (r : ℤ) → r ≡ fold int_min (g face) (map g faces) → All (λ other. r ≤ℤ g other) (face ∷ faces) × Any (λ other. g other ≡ r) (face ∷ faces)
least_side g face faces r e =
    let bounds = fold-int_min_bounds (g face) (map g faces) r e in
    (All-cons (λ other. r ≤ℤ g other) face faces bounds.0 (all_of_map (λ x. r ≤ℤ x) g faces bounds.1), any_of_map g face faces r (fold-int_min_reached (g face) (map g faces) r e))

pub greatest_side : (g : FlatFace → ℤ) (face : FlatFace) (faces : List FlatFace) (r : ℤ) → r ≡ fold int_max (g face) (map g faces) → All (λ other. g other ≤ℤ r) (face ∷ faces) × Any (λ other. g other ≡ r) (face ∷ faces)
greatest_side g face faces r e =
    let bounds = fold-int_max_bounds (g face) (map g faces) r e in
    (All-cons (λ other. g other ≤ℤ r) face faces bounds.0 (all_of_map (λ x. x ≤ℤ r) g faces bounds.1), any_of_map g face faces r (fold-int_max_reached (g face) (map g faces) r e))

pub extent_is : (faces : List FlatFace) → 0 < length faces → IsExtent faces (extent_of faces)
extent_is [] some = absurd (omega arith)
extent_is (face ∷ faces) some =
    let x0 = least_side (λ other. other.rect.x0) face faces (fold int_min face.rect.x0 (map (λ (other : FlatFace). other.rect.x0) faces)) refl in
    let x1 = greatest_side (λ other. other.rect.x1) face faces (fold int_max face.rect.x1 (map (λ (other : FlatFace). other.rect.x1) faces)) refl in
    let y0 = least_side (λ other. other.rect.y0) face faces (fold int_min face.rect.y0 (map (λ (other : FlatFace). other.rect.y0) faces)) refl in
    let y1 = greatest_side (λ other. other.rect.y1) face faces (fold int_max face.rect.y1 (map (λ (other : FlatFace). other.rect.y1) faces)) refl in
    record {
      holds = λ k d inside. record { x0 = x0.0 k d inside; x1 = x1.0 k d inside; y0 = y0.0 k d inside; y1 = y1.0 k d inside };
      x0 = x0.1;
      x1 = x1.1;
      y0 = y0.1;
      y1 = y1.1;
    }

near_of_any : (g : FlatRect → ℤ) (faces : List FlatFace) (r : ℤ) → Any (λ (other : FlatFace). g other.rect ≡ r) faces → All (λ face. IsNearRect face.rect) faces → ((s : FlatRect) → IsNearRect s → IsNear (g s)) → IsNear r
near_of_any g faces r (k, x, inside, at, e) all side = subst IsNear e (side x.rect (subst (λ (face : FlatFace). IsNearRect face.rect) at (all k x inside)))

pub extent_is_near : (faces : List FlatFace) (r : FlatRect) → IsExtent faces r → All (λ face. IsNearRect face.rect) faces → IsNearRect r
extent_is_near faces r extent all = record {
  x0 = near_of_any (λ s. s.x0) faces r.x0 extent.x0 all (λ s near. near.x0);
  x1 = near_of_any (λ s. s.x1) faces r.x1 extent.x1 all (λ s near. near.x1);
  y0 = near_of_any (λ s. s.y0) faces r.y0 extent.y0 all (λ s near. near.y0);
  y1 = near_of_any (λ s. s.y1) faces r.y1 extent.y1 all (λ s near. near.y1);
}
