use Rattle.std.proofs.Common.{◌≡◌, ◌∙◌, ◌+◌, ◌^◌, ℤ, ◌+ℤ◌, ◌*ℤ◌, ap, FitsSigned, to_z-of_z, w64, arith}
use Rattle.algebra.proofs.Widths.{abs-add, fits_64}
use Rattle.sheet_paper.proofs.window.Window.y1.Goals as goal

pub returns-clause-value : goal.returns-clause-value
returns-clause-value c =
    let at = c.args.self.now.y in
    let unit = c.args.self.now.unit in
    let fits_at : FitsSigned w64 at = fits_64 _ (2 ^ 50) c.requires.y (omega arith) in
    let fits_unit : FitsSigned w64 unit = fits_64 _ (2 ^ 30) c.requires.unit (omega arith) in
    let fits_room : FitsSigned w64 c.upright.result = fits_64 _ (2 ^ 15) c.upright.ensures.near (omega arith) in
    let fits_far : FitsSigned w64 c.in_units.result = fits_64 _ (2 ^ 50) c.in_units.ensures.near (omega arith) in
    let fits : FitsSigned w64 (at +ℤ c.in_units.result) = fits_64 _ (2 ^ 50 + 2 ^ 50) (abs-add at c.in_units.result (2 ^ 50) (2 ^ 50) c.requires.y c.in_units.ensures.near) (omega arith) in
    let far : c.in_units.result ≡ c.upright.result *ℤ unit = simp (to_z-of_z fits_room, to_z-of_z fits_unit) at c.in_units.ensures.value in
    simp (to_z-of_z fits_at, to_z-of_z fits_far, to_z-of_z fits) (ap (λ (z : ℤ). at +ℤ z) (far ∙ ap (λ (z : ℤ). z *ℤ unit) c.upright.ensures.value))
