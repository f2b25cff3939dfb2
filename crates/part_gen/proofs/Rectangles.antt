-- Flat rectangles around that of face 0: those of different faces don't overlap.
use Rattle.std.proofs.Common.{◌≡◌, ℤ, neg_ℤ, ◌≤ℤ◌, Bool, true, false, not, ◌&&◌, ap, subst, ◌∙◌, ◌⊎◌, inl, inr, arith}
use Rattle.std.specs.Prelude.{int_lt}
use Rattle.std.specs.Int.{int_min, int_max}
use Rattle.std.proofs.Math.Bool.{and-false}
use Rattle.std.proofs.lemmas.Bool.{cases_Bool, not-true}
use Rattle.std.proofs.lemmas.Int.{ints, clamps}
use Rattle.part_file.specs.declared.part.Side.{Side}
use Rattle.part_file.specs.declared.part.Side.TheVariants.{N, E, S, W}
use Rattle.part_file.specs.Part.{same_side}
use Rattle.unfolder.specs.declared.blank.FlatRect.{FlatRect}
use Rattle.unfolder.specs.Blank.{is_overlap, is_overlap_in_x, is_overlap_in_y}
use Rattle.part_gen.proofs.Sides.{same_side_is}

pub not_less : (a b : ℤ) → b ≤ℤ a → int_lt a b ≡ false
not_less a b h = grind (arith, ints)

-- from where and how far a rectangle reaches out over a side of face 0
abbrev pub inner : Side → FlatRect → ℤ
inner N r = r.y0
inner E r = r.x0
inner S r = neg_ℤ r.y1
inner W r = neg_ℤ r.x1

abbrev pub outer : Side → FlatRect → ℤ
outer N r = r.y1
outer E r = r.x1
outer S r = neg_ℤ r.y0
outer W r = neg_ℤ r.x0

by_x : (r s : FlatRect) → is_overlap_in_x r s ≡ false → is_overlap r s ≡ false
by_x r s none = ap (λ (b : Bool). b && is_overlap_in_y r s) none

by_y : (r s : FlatRect) → is_overlap_in_y r s ≡ false → is_overlap r s ≡ false
by_y r s none = ap (λ (b : Bool). is_overlap_in_x r s && b) none ∙ and-false (is_overlap_in_x r s)

-- a rectangle that ends where the other begins doesn't overlap it
pub apart : (side : Side) (r s : FlatRect) → outer side r ≤ℤ inner side s → is_overlap r s ≡ false
apart N r s h = by_y r s (not_less (int_max r.y0 s.y0) (int_min r.y1 s.y1) (omega (arith, ints, clamps)))
apart E r s h = by_x r s (not_less (int_max r.x0 s.x0) (int_min r.x1 s.x1) (omega (arith, ints, clamps)))
apart S r s h = by_y r s (not_less (int_max r.y0 s.y0) (int_min r.y1 s.y1) (omega (arith, ints, clamps)))
apart W r s h = by_x r s (not_less (int_max r.x0 s.x0) (int_min r.x1 s.x1) (omega (arith, ints, clamps)))

-- which face it is: face 0, or the first or the second flange of a side
pub data Role : Type 0 where
  root_role : Role
  first_role : Side → Role
  second_role : Side → Role

-- the rectangle lies beyond the edge of its own side, and doesn't reach over that of another
pub record IsOnSide (edge : Side → ℤ) (own : Side) (r : FlatRect) : Type 0 where
  pub beyond : edge own ≤ℤ inner own r
  pub aside : (side : Side) → same_side side own ≡ false → outer side r ≤ℤ edge side

-- where the rectangle of a face lies, by the edges of face 0's core and by where the sides' first flanges end
abbrev pub IsPlaced : (edge end : Side → ℤ) → Role → FlatRect → Type 0
IsPlaced edge end root_role r = (side : Side) → outer side r ≤ℤ edge side
IsPlaced edge end (first_role own) r = IsOnSide edge own r × (outer own r ≤ℤ end own)
IsPlaced edge end (second_role own) r = IsOnSide edge own r × (end own ≤ℤ inner own r)

-- the one face comes before the other
abbrev pub is_before : Role → Role → Bool
is_before root_role root_role = false
is_before root_role (first_role t) = true
is_before root_role (second_role t) = true
is_before (first_role s) root_role = false
is_before (first_role s) (first_role t) = not (same_side t s)
is_before (first_role s) (second_role t) = true
is_before (second_role s) root_role = false
is_before (second_role s) (first_role t) = false
is_before (second_role s) (second_role t) = not (same_side t s)

-- a rectangle that doesn't reach over the edge of a side, and one on that side
over_edge : (edge : Side → ℤ) (side : Side) (r s : FlatRect) → outer side r ≤ℤ edge side → IsOnSide edge side s → is_overlap r s ≡ false
over_edge edge side r s low on = let beyond : edge side ≤ℤ inner side s = on.beyond in apart side r s (omega (arith, ints))

pub disjoint : (edge end : Side → ℤ) (a b : Role) (r s : FlatRect) → is_before a b ≡ true → IsPlaced edge end a r → IsPlaced edge end b s → is_overlap r s ≡ false
disjoint edge end root_role root_role r s order pr ps = absurd (cc)
disjoint edge end root_role (first_role t) r s order pr ps = over_edge edge t r s (pr t) ps.0
disjoint edge end root_role (second_role t) r s order pr ps = over_edge edge t r s (pr t) ps.0
disjoint edge end (first_role u) root_role r s order pr ps = absurd (cc)
disjoint edge end (first_role u) (first_role t) r s order pr ps = over_edge edge t r s (pr.0.aside t (not-true (same_side t u) order)) ps.0
disjoint edge end (first_role u) (second_role t) r s order pr ps = by_side (cases_Bool (same_side t u))
  where
    by_side : (same_side t u ≡ true) ⊎ (same_side t u ≡ false) → is_overlap r s ≡ false
    by_side (inl same) =
        let is : t ≡ u = same_side_is t u same in
        let begins : end u ≤ℤ inner u s = subst (λ (side : Side). end side ≤ℤ inner side s) is ps.1 in
        let ends : outer u r ≤ℤ end u = pr.1 in
        apart u r s (omega (arith, ints))
    by_side (inr other) = over_edge edge t r s (pr.0.aside t other) ps.0
disjoint edge end (second_role u) root_role r s order pr ps = absurd (cc)
disjoint edge end (second_role u) (first_role t) r s order pr ps = absurd (cc)
disjoint edge end (second_role u) (second_role t) r s order pr ps = over_edge edge t r s (pr.0.aside t (not-true (same_side t u) order)) ps.0
