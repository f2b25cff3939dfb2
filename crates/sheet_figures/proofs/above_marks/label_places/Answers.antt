use Rattle.std.proofs.Common.{◌≡◌, ℤ, pos, ◌+ℤ◌, ◌-ℤ◌, ◌*ℤ◌, ◌^◌, [], ◌∷◌, ◌∙◌, ap, FitsSigned, to_z-of_z, w64, arith}
use Rattle.algebra.proofs.Widths.{fits_64}
use Rattle.sheet_paper.specs.Windows.{right_of}
use Rattle.sheet_paper.specs.Spreading.{spread_out}
use Rattle.sheet_figures.proofs.above_marks.label_places.Goals as goal

pub returns-clause-value : goal.returns-clause-value
returns-clause-value c =
    let window = c.args.window.now in
    let fits_x : FitsSigned w64 window.x = fits_64 _ (2 ^ 50) c.requires.window.x (omega arith) in
    let fits_right : FitsSigned w64 c.x1.result = fits_64 _ (2 ^ 51) c.x1.ensures.near (omega arith) in
    let fits_low : FitsSigned w64 c.beyond-low.result = fits_64 _ (2 ^ 60) c.beyond-low.ensures.near (omega arith) in
    let fits_high : FitsSigned w64 c.before-high.result = fits_64 _ (2 ^ 60) c.before-high.ensures.near (omega arith) in
    let fits_gap : FitsSigned w64 c.tenths.result = fits_64 _ (2 ^ 50) c.tenths.ensures.near (omega arith) in
    let fits_first : FitsSigned w64 c.args.first = c.ranges.first in
    let fits_second : FitsSigned w64 c.args.second = c.ranges.second in
    let low : c.beyond-low.result ≡ window.x +ℤ (pos 50 *ℤ window.unit) = simp to_z-of_z at c.beyond-low.ensures.value in
    let from : c.before-high.result ≡ c.x1.result -ℤ (pos 50 *ℤ window.unit) = simp to_z-of_z at c.before-high.ensures.value in
    let high : c.before-high.result ≡ right_of window -ℤ (pos 50 *ℤ window.unit) = from ∙ ap (λ (z : ℤ). z -ℤ (pos 50 *ℤ window.unit)) c.x1.ensures.value in
    let places : c.spread.result.items ≡ spread_out c.beyond-low.result c.before-high.result c.tenths.result (c.args.first ∷ c.args.second ∷ []) = simp to_z-of_z at c.spread.ensures.value in
    places ∙ (λ i. spread_out (low i) (high i) (c.tenths.ensures.value i) (c.args.first ∷ c.args.second ∷ []))
