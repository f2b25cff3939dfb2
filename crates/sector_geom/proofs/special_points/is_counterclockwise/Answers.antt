use Rattle.std.proofs.Common.{to_z-of_z, ◌*ℤ◌}
use Rattle.sector_geom.proofs.Fits.{ray_fits, corner_fits, product_fits}
use Rattle.sector_geom.proofs.Comparisons.{at_least}
use Rattle.sector_geom.proofs.special_points.is_counterclockwise.Goals as goal

pub returns : goal.returns
returns c =
    let p = c.args.ray in let q = c.args.point in
    let f = ray_fits p c.requires.ray in
    let g = corner_fits q c.requires.point in
    let yz = product_fits p.0 q.1 c.requires.ray.y c.requires.point.z in
    let zy = product_fits p.1 q.0 c.requires.ray.z c.requires.point.y in
    record { exact = simp (to_z-of_z f.y, to_z-of_z f.z, to_z-of_z g.y, to_z-of_z g.z, to_z-of_z yz, to_z-of_z zy) (at_least (p.0 *ℤ q.1) (p.1 *ℤ q.0)) }
