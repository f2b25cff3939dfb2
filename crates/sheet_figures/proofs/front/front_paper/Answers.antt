use Rattle.std.proofs.Common.{◌+◌, ◌^◌, pos, ◌+ℤ◌, FitsSigned, to_z-of_z, w64, arith}
use Rattle.algebra.proofs.Widths.{abs-add, fits_64}
use Rattle.sheet_figures.proofs.front.front_paper.Goals as goal

pub returns-clause-value : goal.returns-clause-value
returns-clause-value c =
    let fits : FitsSigned w64 (pos 42 +ℤ c.args.low) = fits_64 _ (42 + 2 ^ 9) (abs-add (pos 42) c.args.low 42 (2 ^ 9) (omega arith) c.requires) (omega arith) in
    simp (to_z-of_z c.ranges.low, to_z-of_z fits)
