-- What the steps of the clearance test decide, in the words of Clear.
use Rattle.std.specs.Prelude.{◌≡◌, ◌≢◌, ◌⊎◌, ◌≤◌, ◌^◌, ℤ, pos, ◌*ℤ◌, ◌≤ℤ◌, ◌<ℤ◌, unsigned_abs}
use Rattle.brake_base.specs.declared.plane.Rect.{Rect}
use Rattle.brake_base.specs.declared.plane.Rat2.{Rat2}
use Rattle.sector_geom.specs.declared.sector.Sector.{Sector}
use Rattle.sector_geom.specs.declared.special_points.Bound.{Bound}
use Rattle.sector_geom.specs.declared.special_points.Bound.TheVariants.{AtMost, AtLeast}
use Rattle.sector_geom.specs.declared.special_points.Crossing.{Crossing}
use Rattle.sector_geom.specs.Plane.{Point, cross_of, norm_of, numerators, Holds}
use Rattle.sector_geom.specs.Clear.{IsInWedge, IsOnRay, IsSpecial, EachCorner, AllBeyond, AllWithin}

-- The ray's coordinates are within 2^31 of 0.
pub record IsRayInRange (ray : Point) : Type 0 where
  pub y : unsigned_abs ray.0 ≤ 2 ^ 31
  pub z : unsigned_abs ray.1 ≤ 2 ^ 31

pub record IsSectorInRange (s : Sector) : Type 0 where
  pub lower : IsRayInRange s.lower
  pub upper : IsRayInRange s.upper

abbrev pub IsBoundInRange : Bound → Type 0
IsBoundInRange (AtMost n) = unsigned_abs n ≤ 2 ^ 62
IsBoundInRange (AtLeast n) = unsigned_abs n ≤ 2 ^ 62

pub record IsCrossingInRange (c : Crossing) : Type 0 where
  pub y : unsigned_abs c.y ≤ 2 ^ 62
  pub z : unsigned_abs c.z ≤ 2 ^ 62
  pub d : unsigned_abs c.d ≤ 2 ^ 31

-- The point (y/d, z/d) is as far from the origin as it is to be.
abbrev pub IsBoundMet : Bound → Point → ℤ → Type 0
IsBoundMet (AtMost n) p d = norm_of p ≤ℤ (n *ℤ (d *ℤ d))
IsBoundMet (AtLeast n) p d = (n *ℤ (d *ℤ d)) ≤ℤ norm_of p

-- Each special point is.
abbrev pub AllMeet : Point → Point → Rect → Bound → Type 0
AllMeet lower upper r bound =
    (p : Rat2) → Holds r p → IsSpecial lower upper r p → IsBoundMet bound (numerators p) p.d

-- The point is, where it lies in the wedge.
abbrev pub PointMeetsBound : Sector → Bound → Point → Type 0
PointMeetsBound s bound p = IsInWedge s.lower s.upper p → IsBoundMet bound p (pos 1)

-- Two points are.
abbrev pub PairIsMet : Sector → Bound → Point → Point → Type 0
PairIsMet s bound p q = PointMeetsBound s bound p × PointMeetsBound s bound q

-- The four corners are.
abbrev pub CornersAreMet : Sector → Rect → Bound → Type 0
CornersAreMet s r bound =
    PairIsMet s bound (r.y0, r.z0) (r.y0, r.z1) × PairIsMet s bound (r.y1, r.z0) (r.y1, r.z1)

-- The feet of the perpendiculars from the origin to the lower and the upper edge are.
abbrev pub LevelFeetAreMet : Sector → Rect → Bound → Type 0
LevelFeetAreMet s r bound =
    r.y0 ≤ℤ pos 0 → pos 0 ≤ℤ r.y1 → PairIsMet s bound (pos 0, r.z0) (pos 0, r.z1)

-- Those to the two sides are.
abbrev pub SideFeetAreMet : Sector → Rect → Bound → Type 0
SideFeetAreMet s r bound =
    r.z0 ≤ℤ pos 0 → pos 0 ≤ℤ r.z1 → PairIsMet s bound (r.y0, pos 0) (r.y1, pos 0)

abbrev pub FeetAreMet : Sector → Rect → Bound → Type 0
FeetAreMet s r bound = LevelFeetAreMet s r bound × SideFeetAreMet s r bound

-- The origin is, where the rectangle holds it.
abbrev pub OriginIsMet : Sector → Rect → Bound → Type 0
OriginIsMet s r bound =
    r.y0 ≤ℤ pos 0 → pos 0 ≤ℤ r.y1 → r.z0 ≤ℤ pos 0 → pos 0 ≤ℤ r.z1
    → PointMeetsBound s bound (pos 0, pos 0)

abbrev pub AxisPointsAreMet : Sector → Rect → Bound → Type 0
AxisPointsAreMet s r bound = FeetAreMet s r bound × OriginIsMet s r bound

abbrev pub PointsAreMet : Sector → Rect → Bound → Type 0
PointsAreMet s r bound = CornersAreMet s r bound × AxisPointsAreMet s r bound

-- The point is where the ray meets the edge on the line y = at, over the range of z, which it
-- doesn't run along.
abbrev pub EdgeIsMet : Point → ℤ → Point → Bound → Type 0
EdgeIsMet ray at range bound =
    (p : Point) (d : ℤ) → pos 0 <ℤ d → p.0 ≡ at *ℤ d → (range.0 *ℤ d) ≤ℤ p.1 → p.1 ≤ℤ (range.1 *ℤ d)
    → IsOnRay ray p → (ray.0 ≢ pos 0) → IsBoundMet bound p d

-- On two lines.
abbrev pub LinesAreMet : Point → Point → Point → Bound → Type 0
LinesAreMet ray lines range bound =
    EdgeIsMet ray lines.0 range bound × EdgeIsMet ray lines.1 range bound

-- On the sides, and, with y and z in each other's place, on the lower and the upper edge.
abbrev pub RayIsMet : Point → Rect → Bound → Type 0
RayIsMet ray r bound =
    LinesAreMet ray (r.y0, r.y1) (r.z0, r.z1) bound
    × LinesAreMet (ray.1, ray.0) (r.z0, r.z1) (r.y0, r.y1) bound

-- For both rays.
abbrev pub CrossingsAreMet : Sector → Rect → Bound → Type 0
CrossingsAreMet s r bound = RayIsMet s.lower r bound × RayIsMet s.upper r bound

-- The ray runs along the line y = at, or away from it.
abbrev pub MissesLine : Point → ℤ → Type 0
MissesLine ray at = (ray.0 ≡ pos 0) ⊎ ((at *ℤ ray.0) <ℤ pos 0)

-- It meets that line in one point, which is this one.
pub record IsCrossing (ray : Point) (at : ℤ) (c : Crossing) : Type 0 where
  pub in_range : IsCrossingInRange c
  pub positive : pos 0 <ℤ c.d
  pub on_line : c.y ≡ at *ℤ c.d
  pub on_ray : IsOnRay ray (c.y, c.z)
  pub across : ray.0 ≢ pos 0

-- z/d is in the range.
abbrev pub IsBetween : Point → ℤ → ℤ → Type 0
IsBetween range z d = ((range.0 *ℤ d) ≤ℤ z) × (z ≤ℤ (range.1 *ℤ d))

-- No point of the rectangle has a smaller squared distance from the origin.
abbrev pub IsNoNearer : Rect → ℤ → Type 0
IsNoNearer r n = (p : Rat2) → Holds r p → (n *ℤ (p.d *ℤ p.d)) ≤ℤ norm_of (numerators p)

-- No point of the rectangle has a greater one.
abbrev pub IsNoFarther : Rect → ℤ → Type 0
IsNoFarther r n = (p : Rat2) → Holds r p → norm_of (numerators p) ≤ℤ (n *ℤ (p.d *ℤ p.d))

-- The first two of the four cases: the rectangle lies on one side of the wedge.
abbrev pub IsBeside : Sector → Rect → Type 0
IsBeside s r =
    EachCorner r (λ corner. cross_of s.lower corner ≤ℤ pos 0)
    ⊎ EachCorner r (λ corner. pos 0 ≤ℤ cross_of s.upper corner)

-- The other two: within the wedge it lies beyond the outer circle, or within the inner one.
abbrev pub IsPast : Sector → Rect → Type 0
IsPast s r = AllBeyond s.lower s.upper r s.far2 ⊎ AllWithin s.lower s.upper r s.near2
