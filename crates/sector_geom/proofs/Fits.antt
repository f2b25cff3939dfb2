-- Numbers in range fit 64 or 128 bits.
use Rattle.std.proofs.Common.{◌≤◌, ◌^◌, ℤ, ◌*ℤ◌, unsigned_abs, FitsSigned, arith, w64}
use mir.Syntax.{w128}
use Rattle.algebra.proofs.Widths.{abs-mul, abs-add, fits_64, fits_128}
use Rattle.brake_base.specs.declared.plane.Rect.{Rect}
use Rattle.sector_geom.specs.declared.special_points.Crossing.{Crossing}
use Rattle.sector_geom.specs.Plane.{Point, norm_of, IsInRange, IsCornerInRange}
use Rattle.sector_geom.specs.SpecialPoints.{IsRayInRange, IsCrossingInRange}

pub record RectFits (r : Rect) : Type 0 where
  pub y0 : FitsSigned w64 r.y0
  pub y1 : FitsSigned w64 r.y1
  pub z0 : FitsSigned w64 r.z0
  pub z1 : FitsSigned w64 r.z1

pub rect_fits : (r : Rect) → IsInRange r → RectFits r
rect_fits r h = record {
  y0 = fits_64 r.y0 (2 ^ 30) h.y0 (omega arith);
  y1 = fits_64 r.y1 (2 ^ 30) h.y1 (omega arith);
  z0 = fits_64 r.z0 (2 ^ 30) h.z0 (omega arith);
  z1 = fits_64 r.z1 (2 ^ 30) h.z1 (omega arith);
}

pub record PointFits (p : Point) : Type 0 where
  pub y : FitsSigned w64 p.0
  pub z : FitsSigned w64 p.1

pub corner_fits : (p : Point) → IsCornerInRange p → PointFits p
corner_fits p h = record { y = fits_64 p.0 (2 ^ 30) h.y (omega arith); z = fits_64 p.1 (2 ^ 30) h.z (omega arith) }

pub ray_fits : (p : Point) → IsRayInRange p → PointFits p
ray_fits p h = record { y = fits_64 p.0 (2 ^ 31) h.y (omega arith); z = fits_64 p.1 (2 ^ 31) h.z (omega arith) }

pub norm_fits : (p : Point) → IsCornerInRange p → FitsSigned w128 (norm_of p)
norm_fits p h =
    let y = abs-mul p.0 p.0 (2 ^ 30) (2 ^ 30) h.y h.y in
    let z = abs-mul p.1 p.1 (2 ^ 30) (2 ^ 30) h.z h.z in
    fits_128 (norm_of p) (2 ^ 61) (abs-add (p.0 *ℤ p.0) (p.1 *ℤ p.1) (2 ^ 60) (2 ^ 60) y z) (omega arith)

-- What the squared distance of a crossing passes through.
pub record CrossingFits (c : Crossing) : Type 0 where
  pub y64 : FitsSigned w64 c.y
  pub y128 : FitsSigned w128 c.y
  pub z64 : FitsSigned w64 c.z
  pub z128 : FitsSigned w128 c.z
  pub d64 : FitsSigned w64 c.d
  pub d128 : FitsSigned w128 c.d
  pub yy : FitsSigned w128 (c.y *ℤ c.y)
  pub zz : FitsSigned w128 (c.z *ℤ c.z)
  pub dd : FitsSigned w128 (c.d *ℤ c.d)
  pub norm : FitsSigned w128 (norm_of (c.y, c.z))

pub crossing_fits : (c : Crossing) → IsCrossingInRange c → CrossingFits c
crossing_fits c h =
    let yy = abs-mul c.y c.y (2 ^ 62) (2 ^ 62) h.y h.y in
    let zz = abs-mul c.z c.z (2 ^ 62) (2 ^ 62) h.z h.z in
    let dd = abs-mul c.d c.d (2 ^ 31) (2 ^ 31) h.d h.d in
    record {
      y64 = fits_64 c.y (2 ^ 62) h.y (omega arith);
      y128 = fits_128 c.y (2 ^ 62) h.y (omega arith);
      z64 = fits_64 c.z (2 ^ 62) h.z (omega arith);
      z128 = fits_128 c.z (2 ^ 62) h.z (omega arith);
      d64 = fits_64 c.d (2 ^ 31) h.d (omega arith);
      d128 = fits_128 c.d (2 ^ 31) h.d (omega arith);
      yy = fits_128 (c.y *ℤ c.y) (2 ^ 124) yy (omega arith);
      zz = fits_128 (c.z *ℤ c.z) (2 ^ 124) zz (omega arith);
      dd = fits_128 (c.d *ℤ c.d) (2 ^ 62) dd (omega arith);
      norm = fits_128 (norm_of (c.y, c.z)) (2 ^ 125) (abs-add (c.y *ℤ c.y) (c.z *ℤ c.z) (2 ^ 124) (2 ^ 124) yy zz) (omega arith);
    }

-- A bound, and the bound over a crossing's denominator.
pub bound_fits : (n d : ℤ) → unsigned_abs n ≤ 2 ^ 62 → unsigned_abs d ≤ 2 ^ 31 → FitsSigned w128 n × FitsSigned w128 (n *ℤ (d *ℤ d))
bound_fits n d h l =
    let dd = abs-mul d d (2 ^ 31) (2 ^ 31) l l in
    (fits_128 n (2 ^ 62) h (omega arith), fits_128 (n *ℤ (d *ℤ d)) (2 ^ 124) (abs-mul n (d *ℤ d) (2 ^ 62) (2 ^ 62) h dd) (omega arith))

-- A ray's coordinate times one of a corner.
pub product_fits : (a b : ℤ) → unsigned_abs a ≤ 2 ^ 31 → unsigned_abs b ≤ 2 ^ 30 → FitsSigned w64 (a *ℤ b)
product_fits a b h l = fits_64 (a *ℤ b) (2 ^ 61) (abs-mul a b (2 ^ 31) (2 ^ 30) h l) (omega arith)
