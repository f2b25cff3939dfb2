use Rattle.std.proofs.Common.{◌≡◌, ◌∙◌, ◌+◌, ◌*◌, ◌^◌, ℤ, pos, ◌+ℤ◌, ◌*ℤ◌, ap, FitsSigned, to_z-of_z, w64, arith}
use Rattle.std.specs.Prelude.{int_le}
use Rattle.algebra.proofs.Widths.{abs-add, abs-mul, fits_64}
use Rattle.sheet_paper.proofs.dimension.is_behind.Goals as goal

pub returns : goal.returns
returns c =
    let high = c.args.high in
    let unit = c.args.window.now.unit in
    let letters = c.args.letters in
    let wide = pos 17 *ℤ letters in
    let far = c.args.beside +ℤ wide in
    let wide_near = abs-mul (pos 17) letters 17 (2 ^ 10) (omega arith) c.requires.letters in
    let fits_wide : FitsSigned w64 wide = fits_64 _ (17 * 2 ^ 10) wide_near (omega arith) in
    let fits_far : FitsSigned w64 far = fits_64 _ (50 + 17 * 2 ^ 10) (abs-add c.args.beside wide 50 (17 * 2 ^ 10) c.requires.beside wide_near) (omega arith) in
    let fits_end : FitsSigned w64 c.beyond.result = fits_64 _ (2 ^ 60) c.beyond.ensures.near (omega arith) in
    let fits_right : FitsSigned w64 c.figure_right.result = fits_64 _ (2 ^ 60) c.figure_right.ensures.near (omega arith) in
    let end : c.beyond.result ≡ high +ℤ (far *ℤ unit) = simp (to_z-of_z c.ranges.high, to_z-of_z c.ranges.beside, to_z-of_z c.ranges.letters, to_z-of_z fits_wide, to_z-of_z fits_far) at c.beyond.ensures.value in
    simp (to_z-of_z fits_end, to_z-of_z fits_right)
    (ap (λ (z : ℤ). int_le z c.figure_right.result) end ∙ ap (λ (z : ℤ). int_le (high +ℤ (far *ℤ unit)) z) c.figure_right.ensures.value)
