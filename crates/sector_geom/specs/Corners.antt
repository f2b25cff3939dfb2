-- The corners that bound a piece, as seen from the origin.
use Rattle.brake_base.specs.declared.plane.Rect.{Rect}
use Rattle.brake_base.specs.declared.plane.Quarter.{Quarter}
use Rattle.brake_base.specs.declared.plane.Quarter.TheVariants.{Q1, Q2, Q3, Q4}
use Rattle.sector_geom.specs.Plane.{Point}

-- The corner of a piece that the ray from the origin meets first as it turns counterclockwise, and
-- the farthest such corner.
abbrev pub least_angle : Quarter → Rect → Point
least_angle Q1 r = (r.y1, r.z0)
least_angle Q2 r = (r.y1, r.z1)
least_angle Q3 r = (r.y0, r.z1)
least_angle Q4 r = (r.y0, r.z0)

-- The corner that it meets last, and the farthest such corner.
abbrev pub greatest_angle : Quarter → Rect → Point
greatest_angle Q1 r = (r.y0, r.z1)
greatest_angle Q2 r = (r.y0, r.z0)
greatest_angle Q3 r = (r.y1, r.z0)
greatest_angle Q4 r = (r.y1, r.z1)

-- Where the code finds the corner nearest the origin.
abbrev pub nearest_corner : Quarter → Rect → Point
nearest_corner Q1 r = (r.y0, r.z0)
nearest_corner Q2 r = (r.y1, r.z0)
nearest_corner Q3 r = (r.y1, r.z1)
nearest_corner Q4 r = (r.y0, r.z1)

-- Where it finds the corner farthest from the origin.
abbrev pub farthest_corner : Quarter → Rect → Point
farthest_corner Q1 r = (r.y1, r.z1)
farthest_corner Q2 r = (r.y0, r.z1)
farthest_corner Q3 r = (r.y0, r.z0)
farthest_corner Q4 r = (r.y1, r.z0)
