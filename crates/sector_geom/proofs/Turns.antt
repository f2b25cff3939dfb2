-- Quarter turns about the origin, and the reflection in the y axis, of points and rectangles.
use Rattle.std.proofs.Common.{◌≡◌, ℤ, neg_ℤ, [], ◌∷◌}
use Rattle.algebra.proofs.Ring.{ring, var, ◌⊕◌, ◌⊖◌, ◌⊗◌, minus}
use Rattle.brake_base.specs.declared.plane.Rect.{Rect}
use Rattle.brake_base.specs.declared.plane.Rat2.{Rat2}
use Rattle.sector_geom.specs.Plane.{Point, cross_of, dot_of, norm_of}

-- The rational point with these numerators and this denominator.
abbrev pub over : Point → ℤ → Rat2
over p d = record { y = p.0; z = p.1; d = d }

-- A quarter turn clockwise.
abbrev pub back : Point → Point
back p = (p.1, neg_ℤ p.0)

abbrev pub back_rect : Rect → Rect
back_rect r = record { y0 = r.z0; y1 = r.z1; z0 = neg_ℤ r.y1; z1 = neg_ℤ r.y0 }

-- A quarter turn counterclockwise.
abbrev pub forth : Point → Point
forth p = (neg_ℤ p.1, p.0)

-- The reflection in the y axis.
abbrev pub flip : Point → Point
flip p = (p.0, neg_ℤ p.1)

abbrev pub flip_rect : Rect → Rect
flip_rect r = record { y0 = r.y0; y1 = r.y1; z0 = neg_ℤ r.z1; z1 = neg_ℤ r.z0 }

pub cross-back : (p q : Point) → cross_of (back p) (back q) ≡ cross_of p q
cross-back p q = ring (p.0 ∷ p.1 ∷ q.0 ∷ q.1 ∷ []) (var 1 ⊗ minus (var 2) ⊖ minus (var 0) ⊗ var 3) (var 0 ⊗ var 3 ⊖ var 1 ⊗ var 2) tt

pub dot-back : (p q : Point) → dot_of (back p) (back q) ≡ dot_of p q
dot-back p q = ring (p.0 ∷ p.1 ∷ q.0 ∷ q.1 ∷ []) (var 1 ⊗ var 3 ⊕ minus (var 0) ⊗ minus (var 2)) (var 0 ⊗ var 2 ⊕ var 1 ⊗ var 3) tt

pub norm-back : (p : Point) → norm_of (back p) ≡ norm_of p
norm-back p = ring (p.0 ∷ p.1 ∷ []) (var 1 ⊗ var 1 ⊕ minus (var 0) ⊗ minus (var 0)) (var 0 ⊗ var 0 ⊕ var 1 ⊗ var 1) tt

pub cross-forth : (p q : Point) → cross_of p (forth q) ≡ cross_of (back p) q
cross-forth p q = ring (p.0 ∷ p.1 ∷ q.0 ∷ q.1 ∷ []) (var 0 ⊗ var 2 ⊖ var 1 ⊗ minus (var 3)) (var 1 ⊗ var 3 ⊖ minus (var 0) ⊗ var 2) tt

pub dot-forth : (p q : Point) → dot_of p (forth q) ≡ dot_of (back p) q
dot-forth p q = ring (p.0 ∷ p.1 ∷ q.0 ∷ q.1 ∷ []) (var 0 ⊗ minus (var 3) ⊕ var 1 ⊗ var 2) (var 1 ⊗ var 2 ⊕ minus (var 0) ⊗ var 3) tt

pub norm-forth : (p : Point) → norm_of (forth p) ≡ norm_of p
norm-forth p = ring (p.0 ∷ p.1 ∷ []) (minus (var 1) ⊗ minus (var 1) ⊕ var 0 ⊗ var 0) (var 0 ⊗ var 0 ⊕ var 1 ⊗ var 1) tt

pub cross-flip : (p q : Point) → cross_of (flip q) (flip p) ≡ cross_of p q
cross-flip p q = ring (p.0 ∷ p.1 ∷ q.0 ∷ q.1 ∷ []) (var 2 ⊗ minus (var 1) ⊖ minus (var 3) ⊗ var 0) (var 0 ⊗ var 3 ⊖ var 1 ⊗ var 2) tt

pub dot-flip : (p q : Point) → dot_of (flip q) (flip p) ≡ dot_of p q
dot-flip p q = ring (p.0 ∷ p.1 ∷ q.0 ∷ q.1 ∷ []) (var 2 ⊗ var 0 ⊕ minus (var 3) ⊗ minus (var 1)) (var 0 ⊗ var 2 ⊕ var 1 ⊗ var 3) tt

pub norm-flip : (p : Point) → norm_of (flip p) ≡ norm_of p
norm-flip p = ring (p.0 ∷ p.1 ∷ []) (var 0 ⊗ var 0 ⊕ minus (var 1) ⊗ minus (var 1)) (var 0 ⊗ var 0 ⊕ var 1 ⊗ var 1) tt

pub cross_opposite : (p q : Point) → cross_of q p ≡ neg_ℤ (cross_of p q)
cross_opposite p q = ring (p.0 ∷ p.1 ∷ q.0 ∷ q.1 ∷ []) (var 2 ⊗ var 1 ⊖ var 3 ⊗ var 0) (minus (var 0 ⊗ var 3 ⊖ var 1 ⊗ var 2)) tt
