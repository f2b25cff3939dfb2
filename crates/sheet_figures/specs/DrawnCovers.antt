-- What a swept box covers, as far as it is drawn.
use Rattle.std.specs.Prelude.{◌^◌, ◌≤◌, unsigned_abs}
use Rattle.sector_geom.specs.declared.sector.Sector.{Sector}
use Rattle.sector_geom.specs.SpecialPoints.{IsRayInRange}

-- the cover can be drawn: the squares of its radii are at most 2^61, in square micrometres, and the
-- points that its rays go through lie within 2^31 micrometres
pub record IsDrawnCover (cover : Sector) : Type 0 where
  pub near2 : unsigned_abs cover.near2 ≤ 2 ^ 61
  pub far2 : unsigned_abs cover.far2 ≤ 2 ^ 61
  pub lower : IsRayInRange cover.lower
  pub upper : IsRayInRange cover.upper
