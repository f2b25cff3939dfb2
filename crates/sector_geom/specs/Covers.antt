-- The annular sector that stands for one moving piece of the part, and what it holds.
use Rattle.std.specs.Prelude.{◌≡◌, ◌⊎◌, ℤ, pos, ◌+ℤ◌, ◌-ℤ◌, ◌*ℤ◌, neg_ℤ, ◌≤ℤ◌}
use Rattle.std.specs.Int.{int_max, int_min}
use Rattle.brake_base.specs.declared.plane.Rect.{Rect}
use Rattle.brake_base.specs.declared.plane.Rat2.{Rat2}
use Rattle.brake_base.specs.declared.plane.Quarter.{Quarter}
use Rattle.sector_geom.specs.declared.sector.Sector.{Sector}
use Rattle.sector_geom.specs.declared.sector.Sweep.{Sweep}
use Rattle.sector_geom.specs.declared.sector.Sweep.TheVariants.{Eighth, Fourth}
use Rattle.sector_geom.specs.Plane.{Point, cross_of, norm_of, numerators, Holds, HasInterior}
use Rattle.sector_geom.specs.Plane.{IsInRange}
use Rattle.sector_geom.specs.Pieces.{LiesIn}
use Rattle.sector_geom.specs.Corners.{least_angle, greatest_angle}
use Rattle.sector_geom.specs.Motion.{Triple, IsTriple, IsWideTriple, turned}

-- The squared distances of the four corners from the origin: the least, and the greatest.
abbrev pub nearest2 : Rect → ℤ
nearest2 r =
    int_min (int_min (norm_of (r.y0, r.z0)) (norm_of (r.y0, r.z1))) (int_min (norm_of (
      r.y1,
      r.z0,
    )) (norm_of (r.y1, r.z1)))

abbrev pub farthest2 : Rect → ℤ
farthest2 r =
    int_max (int_max (norm_of (r.y0, r.z0)) (norm_of (r.y0, r.z1))) (int_max (norm_of (
      r.y1,
      r.z0,
    )) (norm_of (r.y1, r.z1)))

-- The direction of a point after the whole sweep: turned by 45 degrees (and scaled), or by 90.
abbrev pub swept : Sweep → Point → Point
swept Eighth p = (p.0 -ℤ p.1, p.0 +ℤ p.1)
swept Fourth p = (neg_ℤ p.1, p.0)

-- The cover: between the circles through the nearest and the farthest corner, from the ray through
-- the corner of least angle to the ray through the corner of greatest angle after the sweep.
abbrev pub cover_of : Quarter → Sweep → Rect → Sector
cover_of quarter sweep r = record {
  near2 = nearest2 r;
  far2 = farthest2 r;
  lower = least_angle quarter r;
  upper = swept sweep (greatest_angle quarter r);
}

-- The sector came from `cover`, with this sweep.
pub record IsCoverBy (sweep : Sweep) (s : Sector) : Type 0 where
  pub piece : Rect
  pub quarter : Quarter
  pub in_range : IsInRange piece
  pub in_quarter : LiesIn quarter piece
  pub interior : HasInterior piece
  pub value : s ≡ cover_of quarter sweep piece

-- The sector came from `cover`.
abbrev pub IsCover : Sector → Type 0
IsCover s = IsCoverBy Eighth s ⊎ IsCoverBy Fourth s

-- The rational point is in the sector or on its edge.
pub record IsInSector (s : Sector) (p : Rat2) : Type 0 where
  pub after_lower : pos 0 ≤ℤ cross_of s.lower (numerators p)
  pub before_upper : cross_of s.upper (numerators p) ≤ℤ pos 0
  pub beyond_near : (s.near2 *ℤ (p.d *ℤ p.d)) ≤ℤ norm_of (numerators p)
  pub within_far : norm_of (numerators p) ≤ℤ (s.far2 *ℤ (p.d *ℤ p.d))

-- The turns of the sweep.
abbrev pub IsTurnOf : Sweep → Triple → Type 0
IsTurnOf Eighth t = IsTriple t
IsTurnOf Fourth t = IsWideTriple t

-- The cover law: each turn of each rational point of the piece is in the sector.
abbrev pub HoldsTurned : Rect → Sweep → Sector → Type 0
HoldsTurned piece sweep s =
    (p : Rat2) (t : Triple) → Holds piece p → IsTurnOf sweep t → IsInSector s (turned t p)
