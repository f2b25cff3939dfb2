-- The clear law, the third case: a point of the wedge is moved towards the origin.
use Rattle.std.proofs.Common.{◌≡◌, ◌⊎◌, inl, inr, ℤ, pos, ◌+ℤ◌, ◌-ℤ◌, ◌*ℤ◌, neg_ℤ, ◌≤ℤ◌, ◌<ℤ◌, arith, [], ◌∷◌, sym, refl}
use Rattle.algebra.proofs.Order.{signs, nonneg-mul, nonneg-add, nonneg-square, positive-mul, positive-nonneg, nonneg_by_factor, nonneg_as, positive_as, by_sign, le_from, le_to, lt_from, lt_to, positive_by_factor, positive-add, zero_clash, by_order, le_of_same, le_of_lt}
use lib.IntN.{*ℤ_comm}
use Rattle.algebra.proofs.Ring.{ring, var, whole, ◌⊕◌, ◌⊖◌, ◌⊗◌, minus}
use Rattle.brake_base.specs.declared.plane.Rect.{Rect}
use Rattle.sector_geom.specs.Plane.{Point, Holds, IsInside, cross_of, norm_of}
use Rattle.sector_geom.specs.Clear.{IsInWedge, IsSpecial, AllBeyond}
use Rattle.sector_geom.specs.Clear.IsSpecial.{corner, upper_side, foot_on_side, origin}
use Rattle.sector_geom.proofs.Wedge.{IsWedge}
use Rattle.sector_geom.proofs.Turns.{over, back, back_rect, flip, flip_rect, norm-back, norm-flip}
use Rattle.sector_geom.proofs.Symmetry.{IsWedge-flip, IsInWedge-flip, IsInside-flip, AllBeyond-flip, IsWedge-back, IsInWedge-back, IsInside-back, AllBeyond-back}
use Rattle.sector_geom.proofs.OuterCase.{pinch, ordered, meet, met_holds, met_on_ray}

pub record NearCase (l u : Point) (r : Rect) (n : ℤ) (p : Point) (d : ℤ) : Type 0 where
  pub wedge : IsWedge l u
  pub seen : IsInWedge l u p
  pub inside : IsInside r (over p d)
  pub all : AllBeyond l u r n
  pub within : norm_of p ≤ℤ (n *ℤ (d *ℤ d))

near_flip : (l u : Point) (r : Rect) (n : ℤ) (p : Point) (d : ℤ) → NearCase l u r n p d → NearCase (flip u) (flip l) (flip_rect r) n (flip p) d
near_flip l u r n p d c = record {
  wedge = IsWedge-flip l u c.wedge;
  seen = IsInWedge-flip l u p c.seen;
  inside = IsInside-flip r p d c.inside;
  all = AllBeyond-flip l u r n c.all;
  within = rw (norm-flip p) c.within;
}

near_back : (l u : Point) (r : Rect) (n : ℤ) (p : Point) (d : ℤ) → NearCase l u r n p d → NearCase (back l) (back u) (back_rect r) n (back p) d
near_back l u r n p d c = record {
  wedge = IsWedge-back l u c.wedge;
  seen = IsInWedge-back l u p c.seen;
  inside = IsInside-back r p d c.inside;
  all = AllBeyond-back l u r n c.all;
  within = rw (norm-back p) c.within;
}

closing_near : (n y z h d : ℤ) → pos 0 <ℤ h → pos 0 <ℤ d → pos 0 <ℤ (y -ℤ h *ℤ d) → pos 0 ≤ℤ ((h *ℤ h) *ℤ (y *ℤ y +ℤ z *ℤ z) -ℤ n *ℤ (y *ℤ y)) → pos 0 ≤ℤ (n *ℤ (d *ℤ d) -ℤ (y *ℤ y +ℤ z *ℤ z)) → ⊥
closing_near n y z h d ph pd before beyond within =
    let N = var 0 in let Y = var 1 in let Z = var 2 in let H = var 3 in let D = var 4 in
    let S = Y ⊗ Y ⊕ Z ⊗ Z in
    let hd = positive-mul ph pd in
    let py : pos 0 <ℤ y = omega (arith, signs) in
    let sum : pos 0 <ℤ (h *ℤ d +ℤ y) = omega (arith, signs) in
    zero_clash (ring (n ∷ y ∷ z ∷ h ∷ d ∷ []) (S ⊗ ((Y ⊖ H ⊗ D) ⊗ (H ⊗ D ⊕ Y)) ⊕ (D ⊗ D ⊗ ((H ⊗ H) ⊗ S ⊖ N ⊗ (Y ⊗ Y)) ⊕ Y ⊗ Y ⊗ (N ⊗ (D ⊗ D) ⊖ S))) (whole (pos 0)) tt)
    (positive-add (positive-mul (positive-add (positive-mul py py) (nonneg-square z)) (positive-mul before sum)) (nonneg-add (nonneg-mul (nonneg-square d) beyond) (nonneg-mul (nonneg-square y) within)))

-- the point (y0, t) that is nearest the axis, of those from the ray through p upwards
near_left_to : (l u : Point) (r : Rect) (n : ℤ) (p : Point) (d t : ℤ) → NearCase l u r n p d → pos 0 <ℤ r.y0 → (r.z0 *ℤ p.0) ≤ℤ (p.1 *ℤ r.y0) → t ≤ℤ pos 0 → t ≤ℤ r.z1 → r.z0 ≤ℤ t → (p.1 *ℤ r.y0) ≤ℤ (t *ℤ p.0) → (IsInWedge l u (r.y0, t) → IsSpecial l u r (over (r.y0, t) (pos 1))) → ⊥
near_left_to l u r n p d t c py0 low t0 tz1 z0t high pt = by_pinch (pinch l u p (r.y0, t) c.wedge c.seen py py0 high)
  where
    h : IsInside r (over p d)
    h = c.inside

    py : pos 0 <ℤ p.0
    py = let a = positive-mul py0 h.positive in omega (arith, signs, h.left)

    nt : pos 0 ≤ℤ neg_ℤ (t *ℤ p.0)
    nt = nonneg_as (ring (t ∷ p.0 ∷ []) (minus (var 0 ⊗ var 1)) ((whole (pos 0) ⊖ var 0) ⊗ var 1) tt) (nonneg-mul (le_to t0) (positive-nonneg py))

    by_pinch : IsInWedge l u (r.y0, t) ⊎ ((pos 0 <ℤ u.0) × (pos 0 <ℤ cross_of u (r.y0, t))) → ⊥
    by_pinch (inl i) =
        let o = ordered r p d h in
        let held : Holds r (over (r.y0, t) (pos 1)) = record {
          positive = lt_from (omega (arith, signs));
          left = le_of_same (sym (ring (r.y0 ∷ []) (var 0) (var 0 ⊗ whole (pos 1)) tt));
          right = le_from (nonneg_as (ring (r.y0 ∷ r.y1 ∷ []) (var 1 ⊗ whole (pos 1) ⊖ var 0) (var 1 ⊖ var 0) tt) (positive-nonneg o.0));
          low = le_from (nonneg_as (ring (r.z0 ∷ t ∷ []) (var 1 ⊖ var 0 ⊗ whole (pos 1)) (var 1 ⊖ var 0) tt) (le_to z0t));
          high = le_from (nonneg_as (ring (r.z1 ∷ t ∷ []) (var 0 ⊗ whole (pos 1) ⊖ var 1) (var 0 ⊖ var 1) tt) (le_to tz1));
        } in
        let near = c.all (over (r.y0, t) (pos 1)) held (pt i) in
        let N = var 0 in let Y = var 1 in let Z = var 2 in let H = var 3 in let T = var 4 in
        let sum : pos 0 ≤ℤ neg_ℤ (t *ℤ p.0 +ℤ p.1 *ℤ r.y0) = omega (arith, signs, nt) in
        closing_near n p.0 p.1 r.y0 d py0 h.positive (lt_to h.left)
        (nonneg_as (ring (n ∷ p.0 ∷ p.1 ∷ r.y0 ∷ t ∷ []) ((H ⊗ H) ⊗ (Y ⊗ Y ⊕ Z ⊗ Z) ⊖ N ⊗ (Y ⊗ Y)) (((H ⊗ H ⊕ T ⊗ T) ⊖ N ⊗ (whole (pos 1) ⊗ whole (pos 1))) ⊗ (Y ⊗ Y) ⊕ (T ⊗ Y ⊖ Z ⊗ H) ⊗ minus (T ⊗ Y ⊕ Z ⊗ H)) tt)
        (nonneg-add (nonneg-mul (le_to near) (nonneg-square p.0)) (nonneg-mul (le_to high) sum)))
        (le_to c.within)
    by_pinch (inr b) =
        let pu = b.0 in
        let held = met_holds u p r r.y0 t pu py py0 c.seen.before_upper b.1 (le_of_same refl) (le_from (positive-nonneg (ordered r p d h).0)) low tz1 in
        let near = c.all (over (meet u r.y0) u.0) held (upper_side (inl (*ℤ_comm u.0 r.y0)) (met_on_ray u r.y0 py0) (λ e. zero_clash e pu)) in
        let N = var 0 in let Y = var 1 in let Z = var 2 in let H = var 3 in let UY = var 4 in let UZ = var 5 in
        let xs = n ∷ p.0 ∷ p.1 ∷ r.y0 ∷ u.0 ∷ u.1 ∷ [] in
        let ut : pos 0 ≤ℤ neg_ℤ (u.0 *ℤ t) = nonneg_as (ring (u.0 ∷ t ∷ []) (minus (var 0 ⊗ var 1)) (var 0 ⊗ (whole (pos 0) ⊖ var 1)) tt) (nonneg-mul (positive-nonneg pu) (le_to t0)) in
        let uz : pos 0 ≤ℤ neg_ℤ u.1 = nonneg_by_factor py0 (nonneg_as (ring (u.1 ∷ r.y0 ∷ []) (var 1 ⊗ minus (var 0)) (minus (var 0 ⊗ var 1)) tt) (omega (arith, signs, b.1))) in
        let uzy : pos 0 ≤ℤ neg_ℤ (u.1 *ℤ p.0) = nonneg_as (ring (u.1 ∷ p.0 ∷ []) (minus (var 0 ⊗ var 1)) (minus (var 0) ⊗ var 1) tt) (nonneg-mul uz (positive-nonneg py)) in
        let sum : pos 0 ≤ℤ neg_ℤ (u.1 *ℤ p.0 +ℤ u.0 *ℤ p.1) = omega (arith, signs, c.seen.before_upper) in
        closing_near n p.0 p.1 r.y0 d py0 h.positive (lt_to h.left)
        (nonneg_by_factor (positive-mul pu pu) (nonneg_as (ring xs (UY ⊗ UY ⊗ ((H ⊗ H) ⊗ (Y ⊗ Y ⊕ Z ⊗ Z) ⊖ N ⊗ (Y ⊗ Y))) (((UY ⊗ H ⊗ (UY ⊗ H) ⊕ UZ ⊗ H ⊗ (UZ ⊗ H)) ⊖ N ⊗ (UY ⊗ UY)) ⊗ (Y ⊗ Y) ⊕ (H ⊗ H) ⊗ ((whole (pos 0) ⊖ (UY ⊗ Z ⊖ UZ ⊗ Y)) ⊗ minus (UZ ⊗ Y ⊕ UY ⊗ Z))) tt)
        (nonneg-add (nonneg-mul (le_to near) (nonneg-square p.0)) (nonneg-mul (nonneg-square r.y0) (nonneg-mul (le_to c.seen.before_upper) sum)))))
        (le_to c.within)

one_times : (a : ℤ) → a ≡ a *ℤ pos 1
one_times a = ring (a ∷ []) (var 0) (var 0 ⊗ whole (pos 1)) tt

-- the way to the origin leaves the rectangle at its left side, below the axis
near_left_up : (l u : Point) (r : Rect) (n : ℤ) (p : Point) (d : ℤ) → NearCase l u r n p d → pos 0 <ℤ r.y0 → (r.z0 *ℤ p.0) ≤ℤ (p.1 *ℤ r.y0) → (p.1 *ℤ r.y0) ≤ℤ (r.z1 *ℤ p.0) → p.1 ≤ℤ pos 0 → ⊥
near_left_up l u r n p d c py0 low high down = cases (by_order r.z1)
  where
    z_low : r.z0 ≤ℤ pos 0
    z_low =
        let g : pos 0 <ℤ neg_ℤ r.z0 = positive_by_factor (positive-nonneg c.inside.positive) (positive_as (ring (r.z0 ∷ d ∷ p.1 ∷ []) (var 1 ⊗ minus (var 0)) ((var 2 ⊖ var 0 ⊗ var 1) ⊕ minus (var 2)) tt) (positive-add (lt_to c.inside.low) (omega (arith, signs)))) in
        omega (arith, signs)

    pzy : pos 0 ≤ℤ neg_ℤ (p.1 *ℤ r.y0)
    pzy = nonneg_as (ring (p.1 ∷ r.y0 ∷ []) (minus (var 0 ⊗ var 1)) ((whole (pos 0) ⊖ var 0) ⊗ var 1) tt) (nonneg-mul (le_to down) (positive-nonneg py0))

    cases : ((pos 0 <ℤ r.z1) ⊎ (pos 0 ≤ℤ neg_ℤ r.z1)) → ⊥
    cases (inl over) =
        near_left_to l u r n p d (pos 0) c py0 low (le_of_same refl) (le_of_lt over) z_low (le_from (nonneg_as (ring (p.0 ∷ p.1 ∷ r.y0 ∷ []) (whole (pos 0) ⊗ var 0 ⊖ var 1 ⊗ var 2) (minus (var 1 ⊗ var 2)) tt) pzy)) (λ i. foot_on_side (inl (one_times r.y0)) refl i)
    cases (inr under) =
        near_left_to l u r n p d r.z1 c py0 low (omega (arith, signs)) (le_of_same refl) (le_from (positive-nonneg (ordered r p d c.inside).1)) high (λ i. corner (inl (one_times r.y0)) (inr (one_times r.z1)) i)

near_left : (l u : Point) (r : Rect) (n : ℤ) (p : Point) (d : ℤ) → NearCase l u r n p d → pos 0 <ℤ r.y0 → (r.z0 *ℤ p.0) ≤ℤ (p.1 *ℤ r.y0) → (p.1 *ℤ r.y0) ≤ℤ (r.z1 *ℤ p.0) → ⊥
near_left l u r n p d c py0 low high = cases (by_order p.1)
  where
    cases : ((pos 0 <ℤ p.1) ⊎ (pos 0 ≤ℤ neg_ℤ p.1)) → ⊥
    cases (inr down) = near_left_up l u r n p d c py0 low high (omega (arith, signs))
    cases (inl up) =
        near_left_up (flip u) (flip l) (flip_rect r) n (flip p) d (near_flip l u r n p d c) py0
        (le_from (nonneg_as (ring (r.z1 ∷ p.0 ∷ p.1 ∷ r.y0 ∷ []) (minus (var 2) ⊗ var 3 ⊖ minus (var 0) ⊗ var 1) (var 0 ⊗ var 1 ⊖ var 2 ⊗ var 3) tt) (le_to high)))
        (le_from (nonneg_as (ring (r.z0 ∷ p.0 ∷ p.1 ∷ r.y0 ∷ []) (minus (var 0) ⊗ var 1 ⊖ minus (var 2) ⊗ var 3) (var 2 ⊗ var 3 ⊖ var 0 ⊗ var 1) tt) (le_to low)))
        (omega (arith, signs))

-- the way to the origin leaves at the bottom
near_bottom : (l u : Point) (r : Rect) (n : ℤ) (p : Point) (d : ℤ) → NearCase l u r n p d → pos 0 <ℤ r.y0 → (p.1 *ℤ r.y0) <ℤ (r.z0 *ℤ p.0) → ⊥
near_bottom l u r n p d c py0 under =
    let h = c.inside in
    let Y = var 0 in let Z = var 1 in let D = var 2 in let Y0 = var 3 in let Y1 = var 4 in let Z0 = var 5 in let Z1 = var 6 in
    let xs = p.0 ∷ p.1 ∷ d ∷ r.y0 ∷ r.y1 ∷ r.z0 ∷ r.z1 ∷ [] in
    let yd = positive-mul py0 h.positive in
    let py : pos 0 <ℤ p.0 = omega (arith, signs, h.left) in
    let pz0 : pos 0 <ℤ r.z0 = elim (by_order r.z0) [
      | inl up ↦ up
      | inr down ↦ zero_clash (ring xs (Y0 ⊗ (Z ⊖ Z0 ⊗ D) ⊕ (minus Z0 ⊗ (Y ⊖ Y0 ⊗ D) ⊕ (Z0 ⊗ Y ⊖ Z ⊗ Y0))) (whole (pos 0)) tt)
          (positive-add (positive-mul py0 (lt_to h.low)) (nonneg-add (nonneg-mul down (positive-nonneg (lt_to h.left))) (positive-nonneg (lt_to under))))
    ] in
    near_left (back l) (back u) (back_rect r) n (back p) d (near_back l u r n p d c) pz0
    (le_from (nonneg_by_factor h.positive (nonneg_as (ring xs (D ⊗ (minus Y ⊗ Z0 ⊖ minus Y1 ⊗ Z)) ((Y1 ⊗ D ⊖ Y) ⊗ Z ⊕ Y ⊗ (Z ⊖ Z0 ⊗ D)) tt)
    (nonneg-add (nonneg-mul (positive-nonneg (lt_to h.right)) (let a = positive-mul pz0 h.positive in omega (arith, signs, h.low))) (nonneg-mul (positive-nonneg py) (positive-nonneg (lt_to h.low)))))))
    (le_from (nonneg_as (ring xs (minus Y0 ⊗ Z ⊖ minus Y ⊗ Z0) (Z0 ⊗ Y ⊖ Z ⊗ Y0) tt) (positive-nonneg (lt_to under))))

near_pos : (l u : Point) (r : Rect) (n : ℤ) (p : Point) (d : ℤ) → NearCase l u r n p d → pos 0 <ℤ r.y0 → ⊥
near_pos l u r n p d c py = by_top (by_sign (p.1 *ℤ r.y0 -ℤ r.z0 *ℤ p.0)) (by_sign (r.z1 *ℤ p.0 -ℤ p.1 *ℤ r.y0))
  where
    by_top : ((pos 0 ≤ℤ (p.1 *ℤ r.y0 -ℤ r.z0 *ℤ p.0)) ⊎ ((p.1 *ℤ r.y0 -ℤ r.z0 *ℤ p.0) <ℤ pos 0)) → ((pos 0 ≤ℤ (r.z1 *ℤ p.0 -ℤ p.1 *ℤ r.y0)) ⊎ ((r.z1 *ℤ p.0 -ℤ p.1 *ℤ r.y0) <ℤ pos 0)) → ⊥
    by_top (inr under) _ = near_bottom l u r n p d c py (omega (arith, signs))
    by_top (inl low) (inl high) = near_left l u r n p d c py (le_from low) (le_from high)
    by_top (inl low) (inr over) =
        near_bottom (flip u) (flip l) (flip_rect r) n (flip p) d (near_flip l u r n p d c) py
        (lt_from (positive_as (ring (r.z1 ∷ p.0 ∷ p.1 ∷ r.y0 ∷ []) (minus (var 0) ⊗ var 1 ⊖ minus (var 2) ⊗ var 3) (whole (pos 0) ⊖ (var 0 ⊗ var 1 ⊖ var 2 ⊗ var 3)) tt) (lt_to over)))

pub near : (l u : Point) (r : Rect) (n : ℤ) (p : Point) (d : ℤ) → NearCase l u r n p d → pos 0 <ℤ n → ⊥
near l u r n p d c pn = cases (by_order r.y0) (by_order r.z0) (by_order (neg_ℤ r.y1)) (by_order (neg_ℤ r.z1))
  where
    cases : ((pos 0 <ℤ r.y0) ⊎ (pos 0 ≤ℤ neg_ℤ r.y0)) → ((pos 0 <ℤ r.z0) ⊎ (pos 0 ≤ℤ neg_ℤ r.z0)) → ((pos 0 <ℤ neg_ℤ r.y1) ⊎ (pos 0 ≤ℤ neg_ℤ (neg_ℤ r.y1))) → ((pos 0 <ℤ neg_ℤ r.z1) ⊎ (pos 0 ≤ℤ neg_ℤ (neg_ℤ r.z1))) → ⊥
    cases (inl a) _ _ _ = near_pos l u r n p d c a
    cases (inr _) (inl a) _ _ = near_pos (back l) (back u) (back_rect r) n (back p) d (near_back l u r n p d c) a
    cases (inr _) (inr _) (inl a) _ =
        near_pos (back (back l)) (back (back u)) (back_rect (back_rect r)) n (back (back p)) d (near_back (back l) (back u) (back_rect r) n (back p) d (near_back l u r n p d c)) a
    cases (inr _) (inr _) (inr _) (inl a) =
        near_pos (back (back (back l))) (back (back (back u))) (back_rect (back_rect (back_rect r))) n (back (back (back p))) d (near_back (back (back l)) (back (back u)) (back_rect (back_rect r)) n (back (back p)) d (near_back (back l) (back u) (back_rect r) n (back p) d (near_back l u r n p d c))) a
    cases (inr e) (inr f) (inr g) (inr h) =
        let held : Holds r (over (pos 0, pos 0) (pos 1)) = record {
          positive = lt_from (omega (arith, signs));
          left = omega (arith, signs, one_times r.y0);
          right = omega (arith, signs, one_times r.y1);
          low = omega (arith, signs, one_times r.z0);
          high = omega (arith, signs, one_times r.z1);
        } in
        let at = c.all (over (pos 0, pos 0) (pos 1)) held (origin refl refl) in
        let m = ring (n ∷ []) (var 0 ⊗ (whole (pos 1) ⊗ whole (pos 1))) (var 0) tt in
        omega (arith, signs)
