use Rattle.std.proofs.Common.{to_z-of_z, arith, FitsSigned, ◌*ℤ◌, ◌^◌, neg_ℤ, w64}
use Rattle.std.proofs.lemmas.Int.{ints}
use lib.IntN.{+ℤ_idl}
use Rattle.algebra.proofs.Widths.{abs-neg, fits_64}
use Rattle.sector_geom.proofs.Fits.{ray_fits, product_fits}
use Rattle.sector_geom.proofs.Crossings.{crossing_ahead, crossing_behind}
use Rattle.sector_geom.proofs.special_points.crossing_at.Goals as goal

pub returns-then-at-ge0 : goal.returns-then-at-ge0
returns-then-at-ge0 c =
    let r = c.args.ray in let s = c.requires.ray in
    let f = ray_fits r s in
    let r0 : FitsSigned w64 r.0 = f.y in
    let r1 : FitsSigned w64 r.1 = f.z in
    let a : FitsSigned w64 c.args.at = c.ranges.at in
    let y : FitsSigned w64 (r.0 *ℤ c.args.at) = product_fits r.0 c.args.at s.y c.requires.at in
    let z : FitsSigned w64 (r.1 *ℤ c.args.at) = product_fits r.1 c.args.at s.z c.requires.at in
    record { exact = crossing_ahead r c.args.at _ s c.requires.at (omega (arith, ints)) (omega (arith, ints)) (simp to_z-of_z) (simp to_z-of_z) (to_z-of_z r0) }

pub returns-then-at-le0 : goal.returns-then-at-le0
returns-then-at-le0 c =
    let r = c.args.ray in let s = c.requires.ray in
    let f = ray_fits r s in
    let r0 : FitsSigned w64 r.0 = f.y in
    let r1 : FitsSigned w64 r.1 = f.z in
    let n0 : FitsSigned w64 (neg_ℤ r.0) = fits_64 (neg_ℤ r.0) (2 ^ 31) (rw (abs-neg r.0) s.y) (omega arith) in
    let n1 : FitsSigned w64 (neg_ℤ r.1) = fits_64 (neg_ℤ r.1) (2 ^ 31) (rw (abs-neg r.1) s.z) (omega arith) in
    let a : FitsSigned w64 c.args.at = c.ranges.at in
    let y : FitsSigned w64 (neg_ℤ r.0 *ℤ c.args.at) = product_fits (neg_ℤ r.0) c.args.at (rw (abs-neg r.0) s.y) c.requires.at in
    let z : FitsSigned w64 (neg_ℤ r.1 *ℤ c.args.at) = product_fits (neg_ℤ r.1) c.args.at (rw (abs-neg r.1) s.z) c.requires.at in
    record { exact = crossing_behind r c.args.at _ s c.requires.at (omega (arith, ints)) (omega (arith, ints)) (simp (to_z-of_z, +ℤ_idl)) (simp (to_z-of_z, +ℤ_idl)) (simp (to_z-of_z, +ℤ_idl)) }
