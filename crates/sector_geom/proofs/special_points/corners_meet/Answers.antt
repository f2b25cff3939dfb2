use Rattle.std.proofs.Common.{to_z-of_z}
use Rattle.sector_geom.proofs.Fits.{rect_fits}
use Rattle.sector_geom.proofs.Comparisons.{and_then, and_else}
use Rattle.sector_geom.proofs.special_points.corners_meet.Goals as goal

pub returns-then-pair_meets : goal.returns-then-pair_meets
returns-then-pair_meets c =
    let f = rect_fits c.args.r.now c.requires.rect in
    let first = simp (to_z-of_z f.y0, to_z-of_z f.z0, to_z-of_z f.z1) at c.pair_meets.ensures.exact in
    let second = simp (to_z-of_z f.y1, to_z-of_z f.z0, to_z-of_z f.z1) at c.pair_meets-then-pair_meets.ensures.exact in
    record { exact = and_then c.pair_meets.result c.pair_meets-then-pair_meets.result c.if-pair_meets.true first second }

pub returns-else-pair_meets : goal.returns-else-pair_meets
returns-else-pair_meets c =
    let f = rect_fits c.args.r.now c.requires.rect in
    let first = simp (to_z-of_z f.y0, to_z-of_z f.z0, to_z-of_z f.z1) at c.pair_meets.ensures.exact in
    record { exact = and_else c.pair_meets.result c.if-pair_meets.false first }
