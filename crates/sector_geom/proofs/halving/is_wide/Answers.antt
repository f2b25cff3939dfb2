use Rattle.std.proofs.Common.{to_z-of_z, FitsSigned, rules, w64, refl, ◌^◌, ◌+◌, ◌-ℤ◌, arith}
use Rattle.algebra.proofs.Widths.{abs-sub, fits_64}
use Rattle.sector_geom.proofs.halving.is_wide.Goals as goal

pub returns : goal.returns
returns c =
    let r = c.args.r.now in
    let y0 : FitsSigned w64 r.y0 = search rules in
    let y1 : FitsSigned w64 r.y1 = search rules in
    let z0 : FitsSigned w64 r.z0 = search rules in
    let z1 : FitsSigned w64 r.z1 = search rules in
    let width : FitsSigned w64 (r.y1 -ℤ r.y0) = fits_64 _ (2 ^ 30 + 2 ^ 30) (abs-sub r.y1 r.y0 (2 ^ 30) (2 ^ 30) c.requires.y1 c.requires.y0) (omega arith) in
    let height : FitsSigned w64 (r.z1 -ℤ r.z0) = fits_64 _ (2 ^ 30 + 2 ^ 30) (abs-sub r.z1 r.z0 (2 ^ 30) (2 ^ 30) c.requires.z1 c.requires.z0) (omega arith) in
    simp (to_z-of_z y0, to_z-of_z y1, to_z-of_z z0, to_z-of_z z1, to_z-of_z width, to_z-of_z height) refl
