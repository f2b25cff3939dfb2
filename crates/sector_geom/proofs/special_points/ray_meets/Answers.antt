use Rattle.std.proofs.Common.{to_z-of_z}
use Rattle.sector_geom.proofs.Fits.{rect_fits, ray_fits}
use Rattle.sector_geom.proofs.Comparisons.{and_then, and_else}
use Rattle.sector_geom.proofs.special_points.ray_meets.Goals as goal

pub returns-then-lines_meet : goal.returns-then-lines_meet
returns-then-lines_meet c =
    let f = rect_fits c.args.r.now c.requires.rect in
    let g = ray_fits c.args.ray c.requires.ray in
    let sides = simp (to_z-of_z f.y0, to_z-of_z f.y1, to_z-of_z f.z0, to_z-of_z f.z1, to_z-of_z g.y, to_z-of_z g.z) at c.lines_meet.ensures.exact in
    let levels = simp (to_z-of_z f.y0, to_z-of_z f.y1, to_z-of_z f.z0, to_z-of_z f.z1, to_z-of_z g.y, to_z-of_z g.z) at c.lines_meet-then-lines_meet.ensures.exact in
    record { exact = and_then c.lines_meet.result c.lines_meet-then-lines_meet.result c.if-lines_meet.true sides levels }

pub returns-else-lines_meet : goal.returns-else-lines_meet
returns-else-lines_meet c =
    let f = rect_fits c.args.r.now c.requires.rect in
    let g = ray_fits c.args.ray c.requires.ray in
    let sides = simp (to_z-of_z f.y0, to_z-of_z f.y1, to_z-of_z f.z0, to_z-of_z f.z1, to_z-of_z g.y, to_z-of_z g.z) at c.lines_meet.ensures.exact in
    record { exact = and_else c.lines_meet.result c.if-lines_meet.false sides }
