use Rattle.std.proofs.Common.{◌≤◌, ◌^◌, ◌*◌, ◌*ℤ◌, unsigned_abs, FitsSigned, to_z-of_z, w64, arith}
use Rattle.algebra.proofs.Widths.{abs-mul, fits_64, le_iff}
use Rattle.sheet_paper.proofs.scale.is_within.Goals as goal

pub returns : goal.returns
returns c =
    let small : unsigned_abs (c.args.tenths *ℤ c.args.scale) ≤ 2 ^ 30 * 2 ^ 23 = abs-mul c.args.tenths c.args.scale (2 ^ 30) (2 ^ 23) c.requires.tenths c.requires.scale in
    let fits : FitsSigned w64 (c.args.tenths *ℤ c.args.scale) = fits_64 _ (2 ^ 30 * 2 ^ 23) small (omega arith) in
    simp (to_z-of_z c.ranges.length, to_z-of_z c.ranges.tenths, to_z-of_z c.ranges.scale, to_z-of_z fits) (le_iff c.args.length (c.args.tenths *ℤ c.args.scale))
