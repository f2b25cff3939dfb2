use Rattle.std.proofs.Common.{to_z-of_z}
use Rattle.algebra.proofs.Widths.{le_iff}
use Rattle.sector_geom.proofs.Fits.{crossing_fits, bound_fits}
use Rattle.sector_geom.proofs.special_points.crossing_distance_meets.Goals as goal

pub overflow_add-distance2 : goal.overflow_add-distance2
overflow_add-distance2 c =
    let f = crossing_fits c.args.point c.requires.point in
    simp (to_z-of_z f.y64, to_z-of_z f.y128, to_z-of_z f.z64, to_z-of_z f.z128, to_z-of_z f.yy, to_z-of_z f.zz) f.norm

pub overflow_mul-result : goal.overflow_mul-result
overflow_mul-result c =
    let f = crossing_fits c.args.point c.requires.point in
    let g = bound_fits c.in-AtMost.n c.args.point.d (rw c.in-AtMost.is at c.requires.bound) c.requires.point.d in
    simp (to_z-of_z f.d64, to_z-of_z f.d128, to_z-of_z f.dd, to_z-of_z g.0) g.1

pub returns-in-AtMost : goal.returns-in-AtMost
returns-in-AtMost c =
    let f = crossing_fits c.args.point c.requires.point in
    let g = bound_fits c.in-AtMost.n c.args.point.d (rw c.in-AtMost.is at c.requires.bound) c.requires.point.d in
    record { exact = simp (to_z-of_z f.y64, to_z-of_z f.y128, to_z-of_z f.z64, to_z-of_z f.z128, to_z-of_z f.yy, to_z-of_z f.zz, to_z-of_z f.norm, to_z-of_z f.d64, to_z-of_z f.d128, to_z-of_z f.dd, to_z-of_z g.0, to_z-of_z g.1, c.in-AtMost.is) (le_iff _ _) }

pub overflow_mul-result-in-AtLeast : goal.overflow_mul-result-in-AtLeast
overflow_mul-result-in-AtLeast c =
    let f = crossing_fits c.args.point c.requires.point in
    let g = bound_fits c.in-AtLeast.n c.args.point.d (rw c.in-AtLeast.is at c.requires.bound) c.requires.point.d in
    simp (to_z-of_z f.d64, to_z-of_z f.d128, to_z-of_z f.dd, to_z-of_z g.0) g.1

pub returns-in-AtLeast : goal.returns-in-AtLeast
returns-in-AtLeast c =
    let f = crossing_fits c.args.point c.requires.point in
    let g = bound_fits c.in-AtLeast.n c.args.point.d (rw c.in-AtLeast.is at c.requires.bound) c.requires.point.d in
    record { exact = simp (to_z-of_z f.y64, to_z-of_z f.y128, to_z-of_z f.z64, to_z-of_z f.z128, to_z-of_z f.yy, to_z-of_z f.zz, to_z-of_z f.norm, to_z-of_z f.d64, to_z-of_z f.d128, to_z-of_z f.dd, to_z-of_z g.0, to_z-of_z g.1, c.in-AtLeast.is) (le_iff _ _) }
