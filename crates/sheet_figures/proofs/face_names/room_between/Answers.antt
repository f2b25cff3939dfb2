use Rattle.std.proofs.Common.{◌≡◌, ◌+◌, ◌≤◌, ◌^◌, ℤ, ◌-ℤ◌, unsigned_abs, FitsSigned, to_z-of_z, w64, sym, subst, arith}
use Rattle.std.specs.Int.{int_div_euclid}
use Rattle.algebra.proofs.Widths.{abs-sub, fits_64}
use Rattle.sheet_figures.proofs.Quotients.{quotient_near}
use Rattle.sheet_figures.proofs.face_names.room_between.Goals as goal

pub returns : goal.returns
returns c =
    let n = c.args.high -ℤ c.args.low in
    let unit = c.args.window.now.unit in
    let near : unsigned_abs n ≤ 2 ^ 40 + 2 ^ 40 = abs-sub c.args.high c.args.low (2 ^ 40) (2 ^ 40) c.requires.high c.requires.low in
    let fits_n : FitsSigned w64 n = fits_64 _ (2 ^ 40 + 2 ^ 40) near (omega arith) in
    let fits_unit : FitsSigned w64 unit = fits_64 _ (2 ^ 30) c.requires.window.unit (omega arith) in
    let is : c.div_euclid.result ≡ int_div_euclid n unit = simp (to_z-of_z c.ranges.low, to_z-of_z c.ranges.high, to_z-of_z fits_n, to_z-of_z fits_unit) at c.div_euclid.ensures in
    let small : unsigned_abs c.div_euclid.result ≤ 2 ^ 41 = subst (λ (q : ℤ). unsigned_abs q ≤ 2 ^ 41) (sym is) (quotient_near n unit (2 ^ 41) c.requires.window.some (omega (arith, near))) in
    let fits : FitsSigned w64 c.div_euclid.result = fits_64 _ (2 ^ 41) small (omega arith) in
    simp (to_z-of_z fits) (omega (arith, small))
