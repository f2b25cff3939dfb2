-- A box that hides a point of another, with which it shares no inner point, must follow it.
use Rattle.std.proofs.Common.{◌≡◌, ◌↔◌, ◌≤◌, ◌^◌, unsigned_abs, FitsSigned, w64, IsTrue, inl, inr, ◌⊎◌, ℕ, suc, ℤ, pos, negsuc, neg_ℤ, ◌+ℤ◌, ◌-ℤ◌, ◌*ℤ◌, ◌≤ℤ◌, ◌<ℤ◌, arith, [], ◌∷◌, subst}
use Rattle.std.specs.Int.{int_min, int_max}
use Rattle.std.proofs.lemmas.Int.{ints, clamps}
use Rattle.algebra.proofs.Order.{signs, nonneg-mul, positive-mul, positive-add, positive-nonneg, positive_as, lt_from, lt_to, by_sign}
use Rattle.algebra.proofs.Ring.{ring, var, minus, ◌⊕◌, ◌⊖◌, ◌⊗◌}
use Rattle.brake_base.specs.declared.space.Box3.{Box3}
use Rattle.brake_base.specs.Boxes.{Rational3, IsInside, Overlap, ShareInterior}
use Rattle.brake_base.proofs.Whole.{ends_apart, lt_from_test, lt_test}
use lib.Signed.{lt_z}
use Rattle.brake_base.proofs.Overlaps.{overlap_is}
use Rattle.brake_base.proofs.Vectors.{same_point}
use Rattle.box_paint.specs.Painting.{Hides, ahead, shadow, MustPrecede}

-- ---- weighted sums and differences of coordinates lie between those of the ends
sum_low : (j k u v d p q : ℤ) → pos 0 <ℤ j → pos 0 <ℤ k → (u *ℤ d) <ℤ p → (v *ℤ d) <ℤ q → (((j *ℤ u) +ℤ (k *ℤ v)) *ℤ d) <ℤ ((j *ℤ p) +ℤ (k *ℤ q))
sum_low j k u v d p q pj pk up vq =
    lt_from (positive_as
    (ring (j ∷ k ∷ u ∷ v ∷ d ∷ p ∷ q ∷ []) ((var 0 ⊗ var 5 ⊕ var 1 ⊗ var 6) ⊖ (var 0 ⊗ var 2 ⊕ var 1 ⊗ var 3) ⊗ var 4) (var 0 ⊗ (var 5 ⊖ var 2 ⊗ var 4) ⊕ var 1 ⊗ (var 6 ⊖ var 3 ⊗ var 4)) tt)
    (positive-add (positive-mul pj (lt_to up)) (positive-nonneg (positive-mul pk (lt_to vq)))))

sum_high : (j k u v d p q : ℤ) → pos 0 <ℤ j → pos 0 <ℤ k → p <ℤ (u *ℤ d) → q <ℤ (v *ℤ d) → ((j *ℤ p) +ℤ (k *ℤ q)) <ℤ (((j *ℤ u) +ℤ (k *ℤ v)) *ℤ d)
sum_high j k u v d p q pj pk pu qv =
    lt_from (positive_as
    (ring (j ∷ k ∷ u ∷ v ∷ d ∷ p ∷ q ∷ []) ((var 0 ⊗ var 2 ⊕ var 1 ⊗ var 3) ⊗ var 4 ⊖ (var 0 ⊗ var 5 ⊕ var 1 ⊗ var 6)) (var 0 ⊗ (var 2 ⊗ var 4 ⊖ var 5) ⊕ var 1 ⊗ (var 3 ⊗ var 4 ⊖ var 6)) tt)
    (positive-add (positive-mul pj (lt_to pu)) (positive-nonneg (positive-mul pk (lt_to qv)))))

difference_low : (j k u v d p q : ℤ) → pos 0 <ℤ j → pos 0 <ℤ k → (u *ℤ d) <ℤ p → q <ℤ (v *ℤ d) → (((j *ℤ u) -ℤ (k *ℤ v)) *ℤ d) <ℤ ((j *ℤ p) -ℤ (k *ℤ q))
difference_low j k u v d p q pj pk up qv =
    lt_from (positive_as
    (ring (j ∷ k ∷ u ∷ v ∷ d ∷ p ∷ q ∷ []) ((var 0 ⊗ var 5 ⊖ var 1 ⊗ var 6) ⊖ (var 0 ⊗ var 2 ⊖ var 1 ⊗ var 3) ⊗ var 4) (var 0 ⊗ (var 5 ⊖ var 2 ⊗ var 4) ⊕ var 1 ⊗ (var 3 ⊗ var 4 ⊖ var 6)) tt)
    (positive-add (positive-mul pj (lt_to up)) (positive-nonneg (positive-mul pk (lt_to qv)))))

difference_high : (j k u v d p q : ℤ) → pos 0 <ℤ j → pos 0 <ℤ k → p <ℤ (u *ℤ d) → (v *ℤ d) <ℤ q → ((j *ℤ p) -ℤ (k *ℤ q)) <ℤ (((j *ℤ u) -ℤ (k *ℤ v)) *ℤ d)
difference_high j k u v d p q pj pk pu vq =
    lt_from (positive_as
    (ring (j ∷ k ∷ u ∷ v ∷ d ∷ p ∷ q ∷ []) ((var 0 ⊗ var 2 ⊖ var 1 ⊗ var 3) ⊗ var 4 ⊖ (var 0 ⊗ var 5 ⊖ var 1 ⊗ var 6)) (var 0 ⊗ (var 2 ⊗ var 4 ⊖ var 5) ⊕ var 1 ⊗ (var 6 ⊖ var 3 ⊗ var 4)) tt)
    (positive-add (positive-mul pj (lt_to pu)) (positive-nonneg (positive-mul pk (lt_to vq)))))

-- boxes whose corners are the same
pub same_box : (a b : Box3) → a.lo.x ≡ b.lo.x → a.lo.y ≡ b.lo.y → a.lo.z ≡ b.lo.z → a.hi.x ≡ b.hi.x → a.hi.y ≡ b.hi.y → a.hi.z ≡ b.hi.z → a ≡ b
same_box a b p q r s t u = λ i. record { lo = same_point a.lo b.lo p q r i; hi = same_point a.hi b.hi s t u i }

-- ---- shadows
-- what of a point is the same all along its line of sight
shadow_point : Rational3 → Rational3
shadow_point p = record {
  x = (pos 15 *ℤ p.y) +ℤ (pos 16 *ℤ p.z);
  y = (pos 4 *ℤ p.z) -ℤ (pos 5 *ℤ p.x);
  z = (pos 4 *ℤ p.x) +ℤ (pos 3 *ℤ p.y);
  d = p.d;
  positive = p.positive;
}

-- an inner point's shadow lies inside the box's shadow
in_shadow : (b : Box3) (p : Rational3) → IsInside b p → IsInside (shadow b) (shadow_point p)
unfolding shadow_point
in_shadow b p h = record {
  x_low = sum_low (pos 15) (pos 16) b.lo.y b.lo.z p.d p.y p.z (omega (arith, ints)) (omega (arith, ints)) h.y_low h.z_low;
  x_high = sum_high (pos 15) (pos 16) b.hi.y b.hi.z p.d p.y p.z (omega (arith, ints)) (omega (arith, ints)) h.y_high h.z_high;
  y_low = difference_low (pos 4) (pos 5) b.lo.z b.hi.x p.d p.z p.x (omega (arith, ints)) (omega (arith, ints)) h.z_low h.x_high;
  y_high = difference_high (pos 4) (pos 5) b.hi.z b.lo.x p.d p.z p.x (omega (arith, ints)) (omega (arith, ints)) h.z_high h.x_low;
  z_low = sum_low (pos 4) (pos 3) b.lo.x b.lo.y p.d p.x p.y (omega (arith, ints)) (omega (arith, ints)) h.x_low h.y_low;
  z_high = sum_high (pos 4) (pos 3) b.hi.x b.hi.y p.d p.x p.y (omega (arith, ints)) (omega (arith, ints)) h.x_high h.y_high;
}

-- a point that is given in other words
same_inside : (b : Box3) (p q : Rational3) → p.d ≡ q.d → p.x ≡ q.x → p.y ≡ q.y → p.z ≡ q.z → IsInside b p → IsInside b q
same_inside b p q d x y z h = record {
  x_low = rw (← d, ← x) h.x_low;
  x_high = rw (← d, ← x) h.x_high;
  y_low = rw (← d, ← y) h.y_low;
  y_high = rw (← d, ← y) h.y_high;
  z_low = rw (← d, ← z) h.z_low;
  z_high = rw (← d, ← z) h.z_high;
}

-- all points of a line of sight have one shadow
one_shadow : (front back : Box3) (h : Hides front back) → IsInside (shadow front) (shadow_point h.seen)
unfolding shadow_point
one_shadow front back h =
    same_inside (shadow front) (shadow_point h.near) (shadow_point h.seen) h.same
    (rw (h.y, h.z) (omega (arith, ints)))
    (rw (h.x, h.z) (omega (arith, ints)))
    (rw (h.x, h.y) (omega (arith, ints)))
    (in_shadow front h.near h.meets)

shadows_meet : (front back : Box3) → Hides front back → ShareInterior (shadow back) (shadow front)
shadows_meet front back h = (shadow_point h.seen, in_shadow back h.seen h.inside, one_shadow front back h)

-- ---- planes
pub number_fits : (p : ℤ) → unsigned_abs p ≤ 2 ^ 40 → FitsSigned w64 p
number_fits p near = omega (arith, ints)

pub difference_fits : (p q : ℤ) → unsigned_abs p ≤ 2 ^ 40 → unsigned_abs q ≤ 2 ^ 40 → FitsSigned w64 (p -ℤ q)
difference_fits p q near_p near_q = omega (arith, ints)

passes_up : (near seen way e : ℤ) (k : ℕ) → near ≡ seen +ℤ way *ℤ pos k → pos 0 <ℤ way → near <ℤ e → seen <ℤ e
passes_up near seen way e k is towards high =
    let ahead : pos 0 ≤ℤ (way *ℤ pos k) = nonneg-mul (positive-nonneg towards) (omega (arith, signs)) in
    omega (arith, signs)

passes_down : (near seen way e : ℤ) (k : ℕ) → near ≡ seen +ℤ way *ℤ negsuc k → pos 0 <ℤ way → e <ℤ near → e <ℤ seen
passes_down near seen way e k is towards low =
    let ahead : pos 0 ≤ℤ (way *ℤ pos (suc k)) = nonneg-mul (positive-nonneg towards) (omega (arith, signs)) in
    let back : way *ℤ negsuc k ≡ neg_ℤ (way *ℤ pos (suc k)) = ring (way ∷ pos (suc k) ∷ []) (var 0 ⊗ minus (var 1)) (minus (var 0 ⊗ var 1)) tt in
    omega (arith, signs)

negative : (p q r s t u : ℤ) → p <ℤ q → r <ℤ s → t <ℤ u → int_max (int_max (p -ℤ q) (r -ℤ s)) (t -ℤ u) <ℤ pos 0
negative p q r s t u x y z = omega (arith, ints, clamps)

first_below : (p q r s t u : ℤ) → int_max (int_max (p -ℤ q) (r -ℤ s)) (t -ℤ u) <ℤ pos 0 → p <ℤ q
first_below p q r s t u h = omega (arith, ints, clamps)

second_below : (p q r s t u : ℤ) → int_max (int_max (p -ℤ q) (r -ℤ s)) (t -ℤ u) <ℤ pos 0 → r <ℤ s
second_below p q r s t u h = omega (arith, ints, clamps)

third_below : (p q r s t u : ℤ) → int_max (int_max (p -ℤ q) (r -ℤ s)) (t -ℤ u) <ℤ pos 0 → t <ℤ u
third_below p q r s t u h = omega (arith, ints, clamps)

within : (a b c d : ℤ) → a <ℤ c → a <ℤ d → b <ℤ c → b <ℤ d → int_max a b <ℤ int_min c d
within a b c d ac ad bc bd = omega (arith, ints, clamps)

-- what hides a point of a box isn't beyond a plane behind which the box lies
not_ahead : (front back : Box3) → Hides front back → ahead front back <ℤ pos 0
not_ahead front back h = negative back.lo.x front.hi.x front.lo.y back.hi.y back.lo.z front.hi.z x y z
  where
    x : back.lo.x <ℤ front.hi.x
    x =
        ends_apart back.lo.x front.hi.x h.seen.x h.seen.d h.seen.positive h.inside.x_low
        (passes_up h.near.x h.seen.x h.way (front.hi.x *ℤ h.seen.d) 12 h.x h.towards (subst (λ (d : ℤ). h.near.x <ℤ (front.hi.x *ℤ d)) h.same h.meets.x_high))

    y : front.lo.y <ℤ back.hi.y
    y =
        ends_apart front.lo.y back.hi.y h.seen.y h.seen.d h.seen.positive
        (passes_down h.near.y h.seen.y h.way (front.lo.y *ℤ h.seen.d) 15 h.y h.towards (subst (λ (d : ℤ). (front.lo.y *ℤ d) <ℤ h.near.y) h.same h.meets.y_low))
        h.inside.y_high

    z : back.lo.z <ℤ front.hi.z
    z =
        ends_apart back.lo.z front.hi.z h.seen.z h.seen.d h.seen.positive h.inside.z_low
        (passes_up h.near.z h.seen.z h.way (front.hi.z *ℤ h.seen.d) 15 h.z h.towards (subst (λ (d : ℤ). h.near.z <ℤ (front.hi.z *ℤ d)) h.same h.meets.z_high))

-- boxes that have inner points, neither beyond a plane from the other, share one
sharing : (a b : Box3) (p q : Rational3) → IsInside a p → IsInside b q → ahead a b <ℤ pos 0 → ahead b a <ℤ pos 0 → ShareInterior a b
sharing a b p q inside_a inside_b ab ba = (overlap_is a b).0 (record {
  x =
      within a.lo.x b.lo.x a.hi.x b.hi.x (ends_apart a.lo.x a.hi.x p.x p.d p.positive inside_a.x_low inside_a.x_high)
      (first_below a.lo.x b.hi.x b.lo.y a.hi.y a.lo.z b.hi.z ba) (first_below b.lo.x a.hi.x a.lo.y b.hi.y b.lo.z a.hi.z ab)
      (ends_apart b.lo.x b.hi.x q.x q.d q.positive inside_b.x_low inside_b.x_high);
  y =
      within a.lo.y b.lo.y a.hi.y b.hi.y (ends_apart a.lo.y a.hi.y p.y p.d p.positive inside_a.y_low inside_a.y_high)
      (second_below b.lo.x a.hi.x a.lo.y b.hi.y b.lo.z a.hi.z ab) (second_below a.lo.x b.hi.x b.lo.y a.hi.y a.lo.z b.hi.z ba)
      (ends_apart b.lo.y b.hi.y q.y q.d q.positive inside_b.y_low inside_b.y_high);
  z =
      within a.lo.z b.lo.z a.hi.z b.hi.z (ends_apart a.lo.z a.hi.z p.z p.d p.positive inside_a.z_low inside_a.z_high)
      (third_below a.lo.x b.hi.x b.lo.y a.hi.y a.lo.z b.hi.z ba) (third_below b.lo.x a.hi.x a.lo.y b.hi.y b.lo.z a.hi.z ab)
      (ends_apart b.lo.z b.hi.z q.z q.d q.positive inside_b.z_low inside_b.z_high);
})

-- the test of both: below 0 and below the other way's
pub further_is : (r s m p q : ℤ) → r ≡ p → s ≡ q → m ≡ int_min s (pos 0) → IsTrue (lt_z r m) ↔ ((p <ℤ q) × (p <ℤ pos 0))
further_is r s m p q back front least = (
  λ t. let h : r <ℤ m = lt_from_test r m t in (omega (arith, ints, clamps), omega (arith, ints, clamps)),
  λ h. let first : p <ℤ q = h.0 in let second : p <ℤ pos 0 = h.1 in lt_test r m (omega (arith, ints, clamps)),
)

below_all : (a b : ℤ) → a <ℤ pos 0 → pos 0 ≤ℤ b → a <ℤ b
below_all a b below above = omega (arith, signs)

pub must_follow : (front back : Box3) → (ShareInterior front back → ⊥) → Hides front back → MustPrecede back front
must_follow front back apart h = by_plane (by_sign (ahead back front))
  where
    by_plane : (pos 0 ≤ℤ ahead back front) ⊎ (ahead back front <ℤ pos 0) → MustPrecede back front
    by_plane (inl beyond) = record {
      shadows = shadows_meet front back h;
      further = below_all (ahead front back) (ahead back front) (not_ahead front back h) beyond;
      mixed = not_ahead front back h;
    }
    by_plane (inr mixed) = absurd (apart (sharing front back h.near h.seen h.meets h.inside (not_ahead front back h) mixed))
