use Rattle.std.proofs.Common.{to_z-of_z}
use Rattle.sector_geom.proofs.Fits.{rect_fits}
use Rattle.sector_geom.proofs.Comparisons.{not_above, not_below}
use Rattle.sector_geom.proofs.special_points.origin_meets.Goals as goal

pub returns-else-r-lt0-2 : goal.returns-else-r-lt0-2
returns-else-r-lt0-2 c =
    let r = c.args.r.now in
    let f = rect_fits r c.requires.rect in
    let y0 = not_above r.y0 (simp (to_z-of_z f.y0) at c.if-r-gt0.false) in
    let y1 = not_below r.y1 (simp (to_z-of_z f.y1) at c.if-r-lt0.false) in
    let z0 = not_above r.z0 (simp (to_z-of_z f.z0) at c.if-r-gt0-2.false) in
    let z1 = not_below r.z1 (simp (to_z-of_z f.z1) at c.if-r-lt0-2.false) in
    record { exact = (λ t _ _ _ _. c.point_meets.ensures.exact.0 t, λ h. c.point_meets.ensures.exact.1 (h y0 y1 z0 z1)) }
