use Rattle.std.proofs.Common.{◌*◌, ◌≤◌, ◌^◌, pos, ◌*ℤ◌, unsigned_abs, FitsSigned, to_z-of_z, w64, arith}
use Rattle.std.proofs.lemmas.Int.{ints}
use Rattle.algebra.proofs.Widths.{abs-mul, fits_64}
use Rattle.sheet_figures.proofs.bed.bed_area.Goals as goal

pub returns-clause-value : goal.returns-clause-value
returns-clause-value c =
    let scale = c.args.scale in
    let small : unsigned_abs scale ≤ 2 ^ 24 = omega (arith, ints, c.requires.scale.some, c.requires.scale.near) in
    let fits : FitsSigned w64 (pos 50 *ℤ scale) = fits_64 _ (50 * 2 ^ 24) (abs-mul (pos 50) scale 50 (2 ^ 24) (omega arith) small) (omega arith) in
    simp (to_z-of_z c.ranges.x0, to_z-of_z c.ranges.x1, to_z-of_z c.ranges.scale, to_z-of_z fits)
