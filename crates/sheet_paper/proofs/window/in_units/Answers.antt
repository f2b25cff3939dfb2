use Rattle.std.proofs.Common.{◌≤◌, ◌^◌, ◌*◌, ◌*ℤ◌, unsigned_abs, FitsSigned, to_z-of_z, w64, arith}
use Rattle.algebra.proofs.Widths.{abs-mul, fits_64}
use Rattle.sheet_paper.proofs.window.in_units.Goals as goal

pub returns-clause-value : goal.returns-clause-value
returns-clause-value c =
    let small : unsigned_abs (c.args.tenths *ℤ c.args.unit) ≤ 2 ^ 20 * 2 ^ 30 = abs-mul c.args.tenths c.args.unit (2 ^ 20) (2 ^ 30) c.requires.tenths c.requires.unit in
    let fits : FitsSigned w64 (c.args.tenths *ℤ c.args.unit) = fits_64 _ (2 ^ 20 * 2 ^ 30) small (omega arith) in
    simp (to_z-of_z c.ranges.tenths, to_z-of_z c.ranges.unit, to_z-of_z fits)

pub returns-clause-near : goal.returns-clause-near
returns-clause-near c =
    let small : unsigned_abs (c.args.tenths *ℤ c.args.unit) ≤ 2 ^ 20 * 2 ^ 30 = abs-mul c.args.tenths c.args.unit (2 ^ 20) (2 ^ 30) c.requires.tenths c.requires.unit in
    let fits : FitsSigned w64 (c.args.tenths *ℤ c.args.unit) = fits_64 _ (2 ^ 20 * 2 ^ 30) small (omega arith) in
    simp (to_z-of_z c.ranges.tenths, to_z-of_z c.ranges.unit, to_z-of_z fits) (omega (arith, small))
