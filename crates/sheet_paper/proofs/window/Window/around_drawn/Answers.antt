use Rattle.std.proofs.Common.{◌^◌, ◌*◌, pos, ◌*ℤ◌, FitsSigned, to_z-of_z, w64, arith}
use Rattle.algebra.proofs.Widths.{abs-mul, fits_64}
use Rattle.sheet_paper.proofs.Scales.{is_small}
use Rattle.sheet_paper.proofs.window.Window.around_drawn.Goals as goal

pub returns-clause-value : goal.returns-clause-value
returns-clause-value c =
    let fits : FitsSigned w64 (pos 100 *ℤ c.args.scale) = fits_64 _ (100 * 2 ^ 23) (abs-mul (pos 100) c.args.scale 100 (2 ^ 23) (omega arith) (is_small _ c.requires.scale)) (omega arith) in
    simp (to_z-of_z c.ranges.scale, to_z-of_z c.ranges.number, to_z-of_z fits) at c.of_units.ensures.value

pub returns-clause-whole : goal.returns-clause-whole
returns-clause-whole c =
    let fits : FitsSigned w64 (pos 100 *ℤ c.args.scale) = fits_64 _ (100 * 2 ^ 23) (abs-mul (pos 100) c.args.scale 100 (2 ^ 23) (omega arith) (is_small _ c.requires.scale)) (omega arith) in
    simp (to_z-of_z c.ranges.scale, to_z-of_z fits) at c.of_units.ensures.whole
