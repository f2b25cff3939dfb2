use Rattle.std.proofs.Common.{◌≡◌, ◌+◌, ◌≤◌, ◌^◌, ℤ, ◌+ℤ◌, ◌*ℤ◌, ap, unsigned_abs, FitsSigned, to_z-of_z, w64, arith}
use Rattle.algebra.proofs.Widths.{abs-add, fits_64}
use Rattle.sheet_paper.proofs.window.Window.beyond.Goals as goal

pub returns-clause-value : goal.returns-clause-value
returns-clause-value c =
    let at = c.args.at in
    let far = c.tenths.result in
    let fits_far : FitsSigned w64 far = fits_64 _ (2 ^ 50) c.tenths.ensures.near (omega arith) in
    let near : unsigned_abs (at +ℤ far) ≤ 2 ^ 59 + 2 ^ 50 = abs-add at far (2 ^ 59) (2 ^ 50) c.requires.at c.tenths.ensures.near in
    let fits : FitsSigned w64 (at +ℤ far) = fits_64 _ (2 ^ 59 + 2 ^ 50) near (omega arith) in
    let is : far ≡ c.args.tenths *ℤ c.args.self.now.unit = simp (to_z-of_z c.ranges.tenths) at c.tenths.ensures.value in
    simp (to_z-of_z c.ranges.at, to_z-of_z fits_far, to_z-of_z fits) (ap (λ (z : ℤ). at +ℤ z) is)

pub returns-clause-near : goal.returns-clause-near
returns-clause-near c =
    let at = c.args.at in
    let far = c.tenths.result in
    let fits_far : FitsSigned w64 far = fits_64 _ (2 ^ 50) c.tenths.ensures.near (omega arith) in
    let near : unsigned_abs (at +ℤ far) ≤ 2 ^ 59 + 2 ^ 50 = abs-add at far (2 ^ 59) (2 ^ 50) c.requires.at c.tenths.ensures.near in
    let fits : FitsSigned w64 (at +ℤ far) = fits_64 _ (2 ^ 59 + 2 ^ 50) near (omega arith) in
    simp (to_z-of_z c.ranges.at, to_z-of_z fits_far, to_z-of_z fits) (omega (arith, near))
