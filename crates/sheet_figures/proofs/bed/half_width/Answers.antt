use Rattle.std.proofs.Common.{◌≡◌, ◌∙◌, ◌+◌, ◌≤◌, ◌^◌, ℤ, ◌-ℤ◌, ap, unsigned_abs, FitsSigned, to_z-of_z, w64, sym, subst, arith}
use Rattle.std.specs.Int.{int_max}
use Rattle.algebra.proofs.Widths.{abs-sub, fits_64}
use Rattle.sheet_paper.proofs.Spreads.{greatest_near}
use Rattle.sheet_figures.proofs.bed.half_width.Goals as goal

pub returns-clause-value : goal.returns-clause-value
returns-clause-value c =
    let half = c.args.x1 -ℤ c.args.middle in
    let far = c.tenths.result in
    let near : unsigned_abs half ≤ 2 ^ 47 + 2 ^ 48 = abs-sub c.args.x1 c.args.middle (2 ^ 47) (2 ^ 48) c.requires.x1 c.requires.middle in
    let fits_half : FitsSigned w64 half = fits_64 _ (2 ^ 47 + 2 ^ 48) near (omega arith) in
    let fits_far : FitsSigned w64 far = fits_64 _ (2 ^ 50) c.tenths.ensures.near (omega arith) in
    let is : c.max.result ≡ int_max half far = simp (to_z-of_z c.ranges.x1, to_z-of_z c.ranges.middle, to_z-of_z fits_half, to_z-of_z fits_far) at c.max.ensures.value in
    let small : unsigned_abs c.max.result ≤ 2 ^ 50 = subst (λ (z : ℤ). unsigned_abs z ≤ 2 ^ 50) (sym is) (greatest_near half far (2 ^ 50) (omega (arith, near)) c.tenths.ensures.near) in
    let fits : FitsSigned w64 c.max.result = fits_64 _ (2 ^ 50) small (omega arith) in
    simp (to_z-of_z fits) (is ∙ ap (λ (z : ℤ). int_max half z) c.tenths.ensures.value)

pub returns-clause-near : goal.returns-clause-near
returns-clause-near c =
    let half = c.args.x1 -ℤ c.args.middle in
    let far = c.tenths.result in
    let near : unsigned_abs half ≤ 2 ^ 47 + 2 ^ 48 = abs-sub c.args.x1 c.args.middle (2 ^ 47) (2 ^ 48) c.requires.x1 c.requires.middle in
    let fits_half : FitsSigned w64 half = fits_64 _ (2 ^ 47 + 2 ^ 48) near (omega arith) in
    let fits_far : FitsSigned w64 far = fits_64 _ (2 ^ 50) c.tenths.ensures.near (omega arith) in
    let is : c.max.result ≡ int_max half far = simp (to_z-of_z c.ranges.x1, to_z-of_z c.ranges.middle, to_z-of_z fits_half, to_z-of_z fits_far) at c.max.ensures.value in
    let small : unsigned_abs c.max.result ≤ 2 ^ 50 = subst (λ (z : ℤ). unsigned_abs z ≤ 2 ^ 50) (sym is) (greatest_near half far (2 ^ 50) (omega (arith, near)) c.tenths.ensures.near) in
    let fits : FitsSigned w64 c.max.result = fits_64 _ (2 ^ 50) small (omega arith) in
    simp (to_z-of_z fits) (omega (arith, small))
