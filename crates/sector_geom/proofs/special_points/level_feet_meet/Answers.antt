use Rattle.std.proofs.Common.{to_z-of_z}
use Rattle.sector_geom.proofs.Fits.{rect_fits}
use Rattle.sector_geom.proofs.Comparisons.{not_above, not_below}
use Rattle.sector_geom.proofs.special_points.level_feet_meet.Goals as goal

pub returns-else-r-lt0 : goal.returns-else-r-lt0
returns-else-r-lt0 c =
    let r = c.args.r.now in
    let f = rect_fits r c.requires.rect in
    let e = simp (to_z-of_z f.z0, to_z-of_z f.z1) at c.pair_meets.ensures.exact in
    let low = not_above r.y0 (simp (to_z-of_z f.y0) at c.if-r-gt0.false) in
    let high = not_below r.y1 (simp (to_z-of_z f.y1) at c.if-r-lt0.false) in
    record { exact = (λ t _ _. e.0 t, λ h. e.1 (h low high)) }
