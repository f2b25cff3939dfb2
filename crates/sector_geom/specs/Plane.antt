-- Points of the plane across the bed, and rectangles in it. Numbers are whole and without bound.
use Rattle.std.specs.Prelude.{◌≤◌, ◌^◌, ℤ, pos, ◌+ℤ◌, ◌-ℤ◌, ◌*ℤ◌, ◌≤ℤ◌, ◌<ℤ◌, unsigned_abs}
use Rattle.brake_base.specs.declared.plane.Rect.{Rect}
use Rattle.brake_base.specs.declared.plane.Rat2.{Rat2}

-- A point with whole coordinates y and z; as a direction, the ray from the origin through it.
abbrev pub Point : Type 0
Point = ℤ × ℤ

-- The cross product: positive where the second point lies counterclockwise of the first, by less
-- than half a turn.
abbrev pub cross_of : Point → Point → ℤ
cross_of p q = p.0 *ℤ q.1 -ℤ p.1 *ℤ q.0

-- The dot product: positive where the two points lie less than a quarter turn apart.
abbrev pub dot_of : Point → Point → ℤ
dot_of p q = p.0 *ℤ q.0 +ℤ p.1 *ℤ q.1

-- The squared distance from the origin.
abbrev pub norm_of : Point → ℤ
norm_of p = p.0 *ℤ p.0 +ℤ p.1 *ℤ p.1

-- The point (y, z), on one ray with the rational point (y/d, z/d) and d times as far from the
-- origin.
abbrev pub numerators : Rat2 → Point
numerators p = (p.y, p.z)

-- The rational point is in the rectangle or on its edge.
pub record Holds (r : Rect) (p : Rat2) : Type 0 where
  pub positive : pos 0 <ℤ p.d
  pub left : (r.y0 *ℤ p.d) ≤ℤ p.y
  pub right : p.y ≤ℤ (r.y1 *ℤ p.d)
  pub low : (r.z0 *ℤ p.d) ≤ℤ p.z
  pub high : p.z ≤ℤ (r.z1 *ℤ p.d)

-- The rational point is in the rectangle and not on its edge.
pub record IsInside (r : Rect) (p : Rat2) : Type 0 where
  pub positive : pos 0 <ℤ p.d
  pub left : (r.y0 *ℤ p.d) <ℤ p.y
  pub right : p.y <ℤ (r.y1 *ℤ p.d)
  pub low : (r.z0 *ℤ p.d) <ℤ p.z
  pub high : p.z <ℤ (r.z1 *ℤ p.d)

pub record HasInterior (r : Rect) : Type 0 where
  pub wide : r.y0 <ℤ r.y1
  pub high : r.z0 <ℤ r.z1

-- Its coordinates are within 2^30 micrometres of 0, so that 128 bits hold every product.
pub record IsInRange (r : Rect) : Type 0 where
  pub y0 : unsigned_abs r.y0 ≤ 2 ^ 30
  pub y1 : unsigned_abs r.y1 ≤ 2 ^ 30
  pub z0 : unsigned_abs r.z0 ≤ 2 ^ 30
  pub z1 : unsigned_abs r.z1 ≤ 2 ^ 30

-- So are those of a point.
pub record IsCornerInRange (p : Point) : Type 0 where
  pub y : unsigned_abs p.0 ≤ 2 ^ 30
  pub z : unsigned_abs p.1 ≤ 2 ^ 30
