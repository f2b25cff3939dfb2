use Rattle.std.proofs.Common.{◌≡◌, ◌+◌, ◌*◌, ◌≤◌, ◌^◌, pos, ◌-ℤ◌, ◌*ℤ◌, unsigned_abs, FitsSigned, to_z-of_z, w64, arith}
use Rattle.std.specs.Int.{int_max}
use Rattle.algebra.proofs.Widths.{abs-mul, abs-sub, fits_64}
use Rattle.sheet_paper.proofs.Spreads.{greatest_near}
use Rattle.sheet_figures.proofs.blank.most_upright.Goals as goal

pub returns-clause-value : goal.returns-clause-value
returns-clause-value c =
    let over = c.args.strokes -ℤ pos 4 in
    let more = int_max over (pos 0) in
    let less = pos 25 *ℤ more in
    let near_over : unsigned_abs over ≤ 2 ^ 7 + 4 = abs-sub c.args.strokes (pos 4) (2 ^ 7) 4 c.requires (omega arith) in
    let near_more : unsigned_abs more ≤ 2 ^ 8 = greatest_near over (pos 0) (2 ^ 8) (omega (arith, near_over)) (omega arith) in
    let near_less : unsigned_abs less ≤ 25 * 2 ^ 8 = abs-mul (pos 25) more 25 (2 ^ 8) (omega arith) near_more in
    let fits_over : FitsSigned w64 over = fits_64 _ (2 ^ 7 + 4) near_over (omega arith) in
    let fits_more : FitsSigned w64 more = fits_64 _ (2 ^ 8) near_more (omega arith) in
    let fits_less : FitsSigned w64 less = fits_64 _ (25 * 2 ^ 8) near_less (omega arith) in
    let fits : FitsSigned w64 (pos 1080 -ℤ less) = fits_64 _ (1080 + 25 * 2 ^ 8) (abs-sub (pos 1080) less 1080 (25 * 2 ^ 8) (omega arith) near_less) (omega arith) in
    let is : c.max.result ≡ more = simp (to_z-of_z c.ranges.strokes, to_z-of_z fits_over) at c.max.ensures.value in
    simp (is, to_z-of_z fits_more, to_z-of_z fits_less, to_z-of_z fits)
