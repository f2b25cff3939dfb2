-- When a sector is clear of a rectangle or of a nose, by looking at finitely many points; and what
-- that is worth.
use Rattle.std.specs.Prelude.{◌≡◌, ◌≢◌, ◌⊎◌, ℤ, pos, ◌*ℤ◌, neg_ℤ, ◌≤ℤ◌, ◌<ℤ◌}
use Rattle.brake_base.specs.declared.plane.Rect.{Rect}
use Rattle.brake_base.specs.declared.plane.Rat2.{Rat2}
use Rattle.sector_geom.specs.declared.sector.Sector.{Sector}
use Rattle.sector_geom.specs.Plane.{Point, cross_of, dot_of, norm_of, numerators, Holds, IsInside}
use Rattle.sector_geom.specs.Covers.{IsInSector}

-- The point lies in the wedge from the lower to the upper ray.
pub record IsInWedge (lower upper p : Point) : Type 0 where
  pub after_lower : pos 0 ≤ℤ cross_of lower p
  pub before_upper : cross_of upper p ≤ℤ pos 0

-- The point lies on the ray from the origin.
pub record IsOnRay (ray p : Point) : Type 0 where
  pub along : cross_of ray p ≡ pos 0
  pub forward : pos 0 ≤ℤ dot_of ray p

-- The rational point's y is that of one of the rectangle's two sides.
abbrev pub IsOnSide : Rect → Rat2 → Type 0
IsOnSide r p = (p.y ≡ r.y0 *ℤ p.d) ⊎ (p.y ≡ r.y1 *ℤ p.d)

-- The rational point's z is that of its lower or its upper edge.
abbrev pub IsOnLevel : Rect → Rat2 → Type 0
IsOnLevel r p = (p.z ≡ r.z0 *ℤ p.d) ⊎ (p.z ≡ r.z1 *ℤ p.d)

-- The kinds of special points among those that the rectangle holds: its corners in the wedge; where
-- one of the two rays meets an edge that it doesn't run along (one that runs along an edge meets it
-- in one point only at the origin); the feet of the perpendiculars from the origin to its edges,
-- where they lie in the wedge; and the origin.
pub data IsSpecial (lower upper : Point) (r : Rect) (p : Rat2) : Type 0 where
  corner : IsOnSide r p → IsOnLevel r p → IsInWedge lower upper (numerators p)
      → IsSpecial lower upper r p
  lower_side : IsOnSide r p → IsOnRay lower (numerators p) → (lower.0 ≢ pos 0)
      → IsSpecial lower upper r p
  upper_side : IsOnSide r p → IsOnRay upper (numerators p) → (upper.0 ≢ pos 0)
      → IsSpecial lower upper r p
  lower_level : IsOnLevel r p → IsOnRay lower (numerators p) → (lower.1 ≢ pos 0)
      → IsSpecial lower upper r p
  upper_level : IsOnLevel r p → IsOnRay upper (numerators p) → (upper.1 ≢ pos 0)
      → IsSpecial lower upper r p
  foot_on_side : IsOnSide r p → (p.z ≡ pos 0) → IsInWedge lower upper (numerators p)
      → IsSpecial lower upper r p
  foot_on_level : IsOnLevel r p → (p.y ≡ pos 0) → IsInWedge lower upper (numerators p)
      → IsSpecial lower upper r p
  origin : (p.y ≡ pos 0) → (p.z ≡ pos 0) → IsSpecial lower upper r p

-- Each special point's squared distance is at least so much.
abbrev pub AllBeyond : Point → Point → Rect → ℤ → Type 0
AllBeyond lower upper r n =
    (p : Rat2) → Holds r p → IsSpecial lower upper r p
    → (n *ℤ (p.d *ℤ p.d)) ≤ℤ norm_of (numerators p)

-- Each special point's squared distance is at most so much.
abbrev pub AllWithin : Point → Point → Rect → ℤ → Type 0
AllWithin lower upper r n =
    (p : Rat2) → Holds r p → IsSpecial lower upper r p
    → norm_of (numerators p) ≤ℤ (n *ℤ (p.d *ℤ p.d))

abbrev pub EachCorner : Rect → (Point → Type 0) → Type 0
EachCorner r P = P (r.y0, r.z0) × P (r.y0, r.z1) × P (r.y1, r.z0) × P (r.y1, r.z1)

-- All corners lie clockwise of the lower ray, or all counterclockwise of the upper one, or all
-- special points beyond the sector's outer circle, or all within its inner one.
abbrev pub IsClear : Sector → Rect → Type 0
IsClear s r =
    EachCorner r (λ c. cross_of s.lower c ≤ℤ pos 0)
    ⊎ (EachCorner r (λ c. pos 0 ≤ℤ cross_of s.upper c)
    ⊎ (AllBeyond s.lower s.upper r s.far2
    ⊎ AllWithin s.lower s.upper r s.near2))

-- The clear law: no rational point is both in the sector and inside the rectangle.
abbrev pub IsApart : Sector → Rect → Type 0
IsApart s r = (p : Rat2) → IsInSector s p → IsInside r p → ⊥

-- The rational point is inside the punch's nose of that size: above both diagonals, and within the
-- nose's corners.
pub record IsInNose (nose : ℤ) (p : Rat2) : Type 0 where
  pub positive : pos 0 <ℤ p.d
  pub right : p.y <ℤ p.z
  pub left : neg_ℤ p.y <ℤ p.z
  pub near : norm_of (numerators p) <ℤ (pos 2 *ℤ (nose *ℤ nose) *ℤ (p.d *ℤ p.d))

-- The ray points downwards, or it lies past the left diagonal.
abbrev pub IsPastNose : Point → Type 0
IsPastNose ray = (ray.1 <ℤ pos 0) ⊎ ((ray.0 <ℤ pos 0) × (ray.1 ≤ℤ neg_ℤ ray.0))

-- The sector's inner circle passes the nose's corners, or its lower ray is past the nose.
abbrev pub IsClearOfNose : Sector → ℤ → Type 0
IsClearOfNose s nose = ((pos 2 *ℤ (nose *ℤ nose)) ≤ℤ s.near2) ⊎ IsPastNose s.lower

-- The clear law of noses: no rational point is both in the sector and inside the nose.
abbrev pub IsApartFromNose : Sector → ℤ → Type 0
IsApartFromNose s nose = (p : Rat2) → IsInSector s p → IsInNose nose p → ⊥
