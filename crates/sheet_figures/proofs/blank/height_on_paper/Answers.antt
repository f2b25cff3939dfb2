use Rattle.std.proofs.Common.{◌≡◌, ◌+◌, ◌*◌, ◌≤◌, ◌^◌, ℤ, pos, ◌+ℤ◌, ◌-ℤ◌, ◌*ℤ◌, ◌≤ℤ◌, unsigned_abs, FitsSigned, to_z-of_z, w64, sym, subst, arith}
use Rattle.std.specs.Int.{int_div_euclid}
use Rattle.std.proofs.lemmas.Int.{ints}
use Rattle.algebra.proofs.Widths.{abs-mul, abs-add, abs-sub, fits_64}
use Rattle.sheet_paper.specs.Windows.{IsScale}
use Rattle.sheet_figures.proofs.Quotients.{quotient_near}
use Rattle.sheet_figures.proofs.blank.height_on_paper.Goals as goal

scale_small : (scale : ℤ) → IsScale scale → unsigned_abs scale ≤ 2 ^ 23
scale_small scale is = omega (arith, ints, is.some, is.near)

one_millimetre : (scale : ℤ) → IsScale scale → pos 1 ≤ℤ (pos 10 *ℤ scale)
one_millimetre scale is = omega (arith, ints, is.some)

pub returns : goal.returns
returns c =
    let height = c.args.height in
    let millimetre = pos 10 *ℤ c.args.scale in
    let more = height +ℤ millimetre in
    let n = more -ℤ pos 1 in
    let near_millimetre : unsigned_abs millimetre ≤ 10 * 2 ^ 23 = abs-mul (pos 10) c.args.scale 10 (2 ^ 23) (omega arith) (scale_small c.args.scale c.requires.scale) in
    let near_more : unsigned_abs more ≤ 2 ^ 40 + 10 * 2 ^ 23 = abs-add height millimetre (2 ^ 40) (10 * 2 ^ 23) c.requires.height near_millimetre in
    let near : unsigned_abs n ≤ (2 ^ 40 + 10 * 2 ^ 23) + 1 = abs-sub more (pos 1) (2 ^ 40 + 10 * 2 ^ 23) 1 near_more (omega arith) in
    let fits_millimetre : FitsSigned w64 millimetre = fits_64 _ (10 * 2 ^ 23) near_millimetre (omega arith) in
    let fits_more : FitsSigned w64 more = fits_64 _ (2 ^ 40 + 10 * 2 ^ 23) near_more (omega arith) in
    let fits_n : FitsSigned w64 n = fits_64 _ ((2 ^ 40 + 10 * 2 ^ 23) + 1) near (omega arith) in
    let is : c.div_euclid.result ≡ int_div_euclid n millimetre = simp (to_z-of_z c.ranges.height, to_z-of_z c.ranges.scale, to_z-of_z fits_millimetre, to_z-of_z fits_more, to_z-of_z fits_n) at c.div_euclid.ensures in
    let small : unsigned_abs c.div_euclid.result ≤ 2 ^ 41 = subst (λ (q : ℤ). unsigned_abs q ≤ 2 ^ 41) (sym is) (quotient_near n millimetre (2 ^ 41) (one_millimetre c.args.scale c.requires.scale) (omega (arith, near))) in
    let fits : FitsSigned w64 c.div_euclid.result = fits_64 _ (2 ^ 41) small (omega arith) in
    simp (to_z-of_z fits) (omega (arith, small))
