-- The wedge between a sector's rays, and what holds of the sector of each cover.
use Rattle.std.specs.Prelude.{◌≡◌, ◌⊎◌, pos, ◌<ℤ◌}
use Rattle.sector_geom.specs.declared.sector.Sector.{Sector}
use Rattle.sector_geom.specs.Plane.{Point, cross_of, dot_of}

-- From the first ray to the second it is more than nothing and at most half a turn.
abbrev pub IsWedge : Point → Point → Type 0
IsWedge l u = (pos 0 <ℤ cross_of l u) ⊎ ((cross_of l u ≡ pos 0) × (dot_of l u <ℤ pos 0))

pub record IsSound (s : Sector) : Type 0 where
  pub wedge : IsWedge s.lower s.upper
  pub extended : pos 0 <ℤ s.far2
