use Rattle.std.proofs.Common.{◌≡◌, ◌+◌, ◌^◌, ◌-ℤ◌, FitsSigned, to_z-of_z, w64, rules, arith}
use Rattle.std.specs.Int.{int_div_euclid}
use Rattle.algebra.proofs.Widths.{abs-sub, fits_64}
use Rattle.sheet_paper.proofs.dimension.room_between.Goals as goal

pub returns : goal.returns
returns c =
    let n = c.args.high -ℤ c.args.low in
    let unit = c.args.window.now.unit in
    let fits_room : FitsSigned w64 n = fits_64 _ (2 ^ 51 + 2 ^ 51) (abs-sub c.args.high c.args.low (2 ^ 51) (2 ^ 51) c.requires.high c.requires.low) (omega arith) in
    let fits_unit : FitsSigned w64 unit = fits_64 _ (2 ^ 30) c.requires.window.unit (omega arith) in
    let fits : FitsSigned w64 c.div_euclid.result = search rules in
    let is : c.div_euclid.result ≡ int_div_euclid n unit = simp (to_z-of_z c.ranges.low, to_z-of_z c.ranges.high, to_z-of_z fits_room, to_z-of_z fits_unit) at c.div_euclid.ensures in
    simp (to_z-of_z fits) is
