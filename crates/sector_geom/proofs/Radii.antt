-- The nearest and the farthest point of a rectangle.
use Rattle.std.proofs.Common.{◌≡◌, ◌⊎◌, inl, inr, ℤ, pos, ◌+ℤ◌, ◌-ℤ◌, ◌*ℤ◌, neg_ℤ, ◌≤ℤ◌, ◌<ℤ◌, arith, [], ◌∷◌, ap}
use Rattle.std.proofs.lemmas.Int.{ints, clamps}
use Rattle.std.specs.Int.{int_max}
use Rattle.algebra.proofs.Order.{signs, nonneg-mul, nonneg-add, nonneg-square, nonneg_by_factor, nonneg_as, positive-nonneg, by_sign, le_from, le_to}
use Rattle.algebra.proofs.Ring.{ring, var, whole, ◌⊕◌, ◌⊖◌, ◌⊗◌, minus}
use Rattle.brake_base.specs.declared.plane.Rect.{Rect}
use Rattle.sector_geom.specs.declared.sector.Sector.{Sector}
use Rattle.sector_geom.specs.Plane.{norm_of}
use Rattle.sector_geom.specs.Clear.{AllBeyond, AllWithin}
use Rattle.sector_geom.specs.SpecialPoints.{IsNoNearer, IsNoFarther}

square_le : (a x : ℤ) → pos 0 ≤ℤ a → a ≤ℤ x → (a *ℤ a) ≤ℤ (x *ℤ x)
square_le a x pa h =
    let px : pos 0 ≤ℤ x = omega (arith, signs) in
    le_from (nonneg_as (ring (a ∷ x ∷ []) (var 1 ⊗ var 1 ⊖ var 0 ⊗ var 0) ((var 1 ⊖ var 0) ⊗ (var 1 ⊕ var 0)) tt) (nonneg-mul (le_to h) (nonneg-add px pa)))

square-neg : (x : ℤ) → neg_ℤ x *ℤ neg_ℤ x ≡ x *ℤ x
square-neg x = ring (x ∷ []) (minus (var 0) ⊗ minus (var 0)) (var 0 ⊗ var 0) tt

products : (g d : ℤ) → (g *ℤ g) *ℤ (d *ℤ d) ≡ (g *ℤ d) *ℤ (g *ℤ d)
products g d = ring (g ∷ d ∷ []) (var 0 ⊗ var 0 ⊗ (var 1 ⊗ var 1)) (var 0 ⊗ var 1 ⊗ (var 0 ⊗ var 1)) tt

-- The gap between 0 and a range: no x/d of the range is nearer.
gap_square : (low high g x d : ℤ) → g ≡ int_max (int_max low (neg_ℤ high)) (pos 0) → pos 0 <ℤ d → (low *ℤ d) ≤ℤ x → x ≤ℤ (high *ℤ d) → ((g *ℤ g) *ℤ (d *ℤ d)) ≤ℤ (x *ℤ x)
gap_square low high g x d e pd l h = rw (products g d) (by_side (by_sign x) (by_sign low) (by_sign high))
  where
    pg : pos 0 ≤ℤ g
    pg = omega (arith, ints, clamps, e)

    pgd : pos 0 ≤ℤ (g *ℤ d)
    pgd = nonneg-mul pg (positive-nonneg pd)

    high_up : pos 0 ≤ℤ x → pos 0 ≤ℤ high
    high_up px = nonneg_by_factor pd (nonneg_as (ring (high ∷ d ∷ []) (var 1 ⊗ var 0) (var 0 ⊗ var 1) tt) (omega (arith, signs, px, h)))

    low_down : x <ℤ pos 0 → pos 0 ≤ℤ neg_ℤ low
    low_down nx = nonneg_by_factor pd (nonneg_as (ring (low ∷ d ∷ []) (var 1 ⊗ minus (var 0)) (minus (var 0 ⊗ var 1)) tt) (omega (arith, signs, nx, l)))

    none : g ≡ pos 0 → ((g *ℤ d) *ℤ (g *ℤ d)) ≤ℤ (x *ℤ x)
    none z =
        let s = ap (λ w. (w *ℤ d) *ℤ (w *ℤ d)) z in
        let t = ring (d ∷ []) (whole (pos 0) ⊗ var 0 ⊗ (whole (pos 0) ⊗ var 0)) (whole (pos 0)) tt in
        omega (arith, signs, s, t, nonneg-square x)

    by_side : ((pos 0 ≤ℤ x) ⊎ (x <ℤ pos 0)) → ((pos 0 ≤ℤ low) ⊎ (low <ℤ pos 0)) → ((pos 0 ≤ℤ high) ⊎ (high <ℤ pos 0)) → ((g *ℤ d) *ℤ (g *ℤ d)) ≤ℤ (x *ℤ x)
    by_side (inl px) (inl pl) _ =
        let same : g ≡ low = omega (arith, ints, clamps, e, high_up px, pl) in
        let s = ap (λ w. w *ℤ d) same in
        square_le (g *ℤ d) x pgd (omega (arith, signs, s, l))
    by_side (inl px) (inr nl) _ = none (omega (arith, ints, clamps, e, high_up px, nl))
    by_side (inr nx) _ (inl ph) = none (omega (arith, ints, clamps, e, low_down nx, ph))
    by_side (inr nx) _ (inr nh) =
        let same : g ≡ neg_ℤ high = omega (arith, ints, clamps, e, low_down nx, nh) in
        let s = ap (λ w. w *ℤ d) same in
        let t = ring (high ∷ d ∷ []) (minus (var 0) ⊗ var 1) (minus (var 0 ⊗ var 1)) tt in
        rw (square-neg x) at (square_le (g *ℤ d) (neg_ℤ x) pgd (omega (arith, signs, s, t, h)))

-- How far a range reaches from 0: no x/d of the range is farther.
reach_square : (low high g x d : ℤ) → g ≡ int_max high (neg_ℤ low) → pos 0 <ℤ d → (low *ℤ d) ≤ℤ x → x ≤ℤ (high *ℤ d) → (x *ℤ x) ≤ℤ ((g *ℤ g) *ℤ (d *ℤ d))
reach_square low high g x d e pd l h =
    let a : pos 0 ≤ℤ (g -ℤ high) = omega (arith, ints, clamps, e) in
    let b : pos 0 ≤ℤ (g +ℤ low) = omega (arith, ints, clamps, e) in
    let ad = nonneg-mul a (positive-nonneg pd) in
    let bd = nonneg-mul b (positive-nonneg pd) in
    let right : pos 0 ≤ℤ (g *ℤ d -ℤ x) = nonneg_as (ring (g ∷ high ∷ d ∷ x ∷ []) (var 0 ⊗ var 2 ⊖ var 3) ((var 0 ⊖ var 1) ⊗ var 2 ⊕ (var 1 ⊗ var 2 ⊖ var 3)) tt) (nonneg-add ad (le_to h)) in
    let left : pos 0 ≤ℤ (g *ℤ d +ℤ x) = nonneg_as (ring (g ∷ low ∷ d ∷ x ∷ []) (var 0 ⊗ var 2 ⊕ var 3) ((var 0 ⊕ var 1) ⊗ var 2 ⊕ (var 3 ⊖ var 1 ⊗ var 2)) tt) (nonneg-add bd (le_to l)) in
    le_from (nonneg_as (ring (g ∷ d ∷ x ∷ []) (var 0 ⊗ var 0 ⊗ (var 1 ⊗ var 1) ⊖ var 2 ⊗ var 2) ((var 0 ⊗ var 1 ⊖ var 2) ⊗ (var 0 ⊗ var 1 ⊕ var 2)) tt) (nonneg-mul right left))

sum-products : (y z d : ℤ) → (y *ℤ y +ℤ z *ℤ z) *ℤ (d *ℤ d) ≡ (y *ℤ y) *ℤ (d *ℤ d) +ℤ (z *ℤ z) *ℤ (d *ℤ d)
sum-products y z d = ring (y ∷ z ∷ d ∷ []) ((var 0 ⊗ var 0 ⊕ var 1 ⊗ var 1) ⊗ (var 2 ⊗ var 2)) (var 0 ⊗ var 0 ⊗ (var 2 ⊗ var 2) ⊕ var 1 ⊗ var 1 ⊗ (var 2 ⊗ var 2)) tt

pub no_nearer : (r : Rect) (y z : ℤ) → y ≡ int_max (int_max r.y0 (neg_ℤ r.y1)) (pos 0) → z ≡ int_max (int_max r.z0 (neg_ℤ r.z1)) (pos 0) → IsNoNearer r (norm_of (y, z))
no_nearer r y z ey ez p h =
    let a = gap_square r.y0 r.y1 y p.y p.d ey h.positive h.left h.right in
    let b = gap_square r.z0 r.z1 z p.z p.d ez h.positive h.low h.high in
    rw (sum-products y z p.d) (omega (arith, signs, a, b))

pub no_farther : (r : Rect) (y z : ℤ) → y ≡ int_max r.y1 (neg_ℤ r.y0) → z ≡ int_max r.z1 (neg_ℤ r.z0) → IsNoFarther r (norm_of (y, z))
no_farther r y z ey ez p h =
    let a = reach_square r.y0 r.y1 y p.y p.d ey h.positive h.left h.right in
    let b = reach_square r.z0 r.z1 z p.z p.d ez h.positive h.low h.high in
    rw (sum-products y z p.d) (omega (arith, signs, a, b))

scaled_le : (m n d : ℤ) → m ≤ℤ n → (m *ℤ (d *ℤ d)) ≤ℤ (n *ℤ (d *ℤ d))
scaled_le m n d h = le_from (nonneg_as (ring (m ∷ n ∷ d ∷ []) (var 1 ⊗ (var 2 ⊗ var 2) ⊖ var 0 ⊗ (var 2 ⊗ var 2)) ((var 1 ⊖ var 0) ⊗ (var 2 ⊗ var 2)) tt) (nonneg-mul (le_to h) (nonneg-square d)))

-- A rectangle beyond the outer circle has its special points there, and one within the inner circle too.
pub beyond : (s : Sector) (r : Rect) (n : ℤ) → IsNoNearer r n → s.far2 ≤ℤ n → AllBeyond s.lower s.upper r s.far2
beyond s r n b h p held special = omega (arith, signs, b p held, scaled_le s.far2 n p.d h)

pub within : (s : Sector) (r : Rect) (n : ℤ) → IsNoFarther r n → n ≤ℤ s.near2 → AllWithin s.lower s.upper r s.near2
within s r n b h p held special = omega (arith, signs, b p held, scaled_le n s.near2 p.d h)
