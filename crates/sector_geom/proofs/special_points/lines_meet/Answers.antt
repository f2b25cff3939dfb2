use Rattle.std.proofs.Common.{to_z-of_z}
use Rattle.sector_geom.proofs.Fits.{corner_fits}
use Rattle.sector_geom.proofs.Comparisons.{and_then, and_else}
use Rattle.sector_geom.proofs.special_points.lines_meet.Goals as goal

pub returns-then-line_meets : goal.returns-then-line_meets
returns-then-line_meets c =
    let f = corner_fits c.args.lines c.requires.lines in
    record { exact = and_then c.line_meets.result c.line_meets-then-line_meets.result c.if-line_meets.true (simp (to_z-of_z f.y) at c.line_meets.ensures.exact) (simp (to_z-of_z f.z) at c.line_meets-then-line_meets.ensures.exact) }

pub returns-else-line_meets : goal.returns-else-line_meets
returns-else-line_meets c =
    let f = corner_fits c.args.lines c.requires.lines in
    record { exact = and_else c.line_meets.result c.if-line_meets.false (simp (to_z-of_z f.y) at c.line_meets.ensures.exact) }
