use Rattle.std.proofs.Common.{to_z-of_z, arith, ◌^◌}
use Rattle.algebra.proofs.Widths.{fits_128}
use Rattle.sector_geom.proofs.CoverShape.{testable}
use Rattle.sector_geom.proofs.Comparisons.{or_then, or_else}
use Rattle.sector_geom.proofs.clearance.special_points_pass.Goals as goal

pub all_meet-requires-clause-sector : goal.all_meet-requires-clause-sector
all_meet-requires-clause-sector c = (testable c.args.s.now c.requires.cover).in_range

pub all_meet-requires-clause-bound : goal.all_meet-requires-clause-bound
all_meet-requires-clause-bound c =
    let t = testable c.args.s.now c.requires.cover in
    let f = fits_128 c.args.s.now.far2 (2 ^ 61) t.far2 (omega arith) in
    simp (to_z-of_z f) (omega (arith, t.far2))

pub all_meet-requires-else-all_meet-clause-sector : goal.all_meet-requires-else-all_meet-clause-sector
all_meet-requires-else-all_meet-clause-sector c = (testable c.args.s.now c.requires.cover).in_range

pub all_meet-requires-else-all_meet-clause-bound : goal.all_meet-requires-else-all_meet-clause-bound
all_meet-requires-else-all_meet-clause-bound c =
    let t = testable c.args.s.now c.requires.cover in
    let f = fits_128 c.args.s.now.near2 (2 ^ 61) t.near2 (omega arith) in
    simp (to_z-of_z f) (omega (arith, t.near2))

pub returns-then-all_meet : goal.returns-then-all_meet
returns-then-all_meet c =
    let t = testable c.args.s.now c.requires.cover in
    let f = fits_128 c.args.s.now.far2 (2 ^ 61) t.far2 (omega arith) in
    record { exact = or_then c.all_meet.result c.if-all_meet.true (simp (to_z-of_z f) at c.all_meet.ensures.exact) }

pub returns-else-all_meet : goal.returns-else-all_meet
returns-else-all_meet c =
    let t = testable c.args.s.now c.requires.cover in
    let f = fits_128 c.args.s.now.far2 (2 ^ 61) t.far2 (omega arith) in
    let n = fits_128 c.args.s.now.near2 (2 ^ 61) t.near2 (omega arith) in
    record { exact = or_else c.all_meet.result c.all_meet-else-all_meet.result c.if-all_meet.false (simp (to_z-of_z f) at c.all_meet.ensures.exact) (simp (to_z-of_z n) at c.all_meet-else-all_meet.ensures.exact) }
