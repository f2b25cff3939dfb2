use Rattle.std.proofs.Common.{◌*◌, ◌^◌, ◌*ℤ◌, to_z-of_z, arith}
use Rattle.algebra.proofs.Widths.{abs-mul, fits_64}
use Rattle.sheet_words.proofs.loads.force_of.Goals as goal

pub returns : goal.returns
returns c =
    let fits = fits_64 (c.args.load *ℤ c.args.length) (2 ^ 20 * 2 ^ 31) (abs-mul c.args.load c.args.length (2 ^ 20) (2 ^ 31) c.requires.load c.requires.length) (omega arith) in
    simp (to_z-of_z c.ranges.load, to_z-of_z c.ranges.length, to_z-of_z fits)
