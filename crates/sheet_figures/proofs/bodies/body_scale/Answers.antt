use Rattle.std.proofs.Common.{◌≡◌, ◌∙◌, ◌+◌, ◌*◌, ◌^◌, ℤ, pos, ◌-ℤ◌, ◌*ℤ◌, ap, subst, FitsSigned, to_z-of_z, w64, arith}
use Rattle.std.proofs.lemmas.Int.{ints}
use Rattle.algebra.proofs.Widths.{abs-sub, abs-mul, fits_64}
use Rattle.sheet_paper.specs.Scales.{IsLeastScale}
use Rattle.sheet_paper.specs.Windows.{across, upright}
use Rattle.sheet_figures.specs.Bodies.{body_paper}
use Rattle.sheet_figures.proofs.bodies.body_scale.Goals as goal

pub returns-clause-least : goal.returns-clause-least
returns-clause-least c =
    let area = c.args.area.now in
    let width = area.x1 -ℤ area.x0 in
    let height = area.y1 -ℤ area.y0 in
    let scale = c.least_scale.result in
    let valid = c.least_scale.ensures.valid in
    let fits_x0 : FitsSigned w64 area.x0 = fits_64 _ (2 ^ 48) c.requires.x0 (omega arith) in
    let fits_x1 : FitsSigned w64 area.x1 = fits_64 _ (2 ^ 48) c.requires.x1 (omega arith) in
    let fits_y0 : FitsSigned w64 area.y0 = fits_64 _ (2 ^ 48) c.requires.y0 (omega arith) in
    let fits_y1 : FitsSigned w64 area.y1 = fits_64 _ (2 ^ 48) c.requires.y1 (omega arith) in
    let fits_width : FitsSigned w64 width = fits_64 _ (2 ^ 48 + 2 ^ 48) (abs-sub area.x1 area.x0 (2 ^ 48) (2 ^ 48) c.requires.x1 c.requires.x0) (omega arith) in
    let fits_height : FitsSigned w64 height = fits_64 _ (2 ^ 48 + 2 ^ 48) (abs-sub area.y1 area.y0 (2 ^ 48) (2 ^ 48) c.requires.y1 c.requires.y0) (omega arith) in
    let fits_across : FitsSigned w64 c.across.result = fits_64 _ (2 ^ 15) c.across.ensures.near (omega arith) in
    let fits_upright : FitsSigned w64 c.upright.result = fits_64 _ (2 ^ 15) c.upright.ensures.near (omega arith) in
    let fits_wide : FitsSigned w64 (pos 100 *ℤ c.across.result) = fits_64 _ (100 * 2 ^ 15) (abs-mul (pos 100) c.across.result 100 (2 ^ 15) (omega arith) c.across.ensures.near) (omega arith) in
    let fits_high : FitsSigned w64 (pos 100 *ℤ c.upright.result) = fits_64 _ (100 * 2 ^ 15) (abs-mul (pos 100) c.upright.result 100 (2 ^ 15) (omega arith) c.upright.ensures.near) (omega arith) in
    let fits_scale : FitsSigned w64 scale = fits_64 _ (2 ^ 24) (omega (arith, ints, valid.some, valid.near)) (omega arith) in
    let wide : c.across.result ≡ across body_paper = c.across.ensures.value ∙ ap across c.body_paper-paper.ensures.value in
    let high : c.upright.result ≡ upright body_paper = c.upright.ensures.value ∙ ap upright c.body_paper-paper.ensures.value in
    let least : IsLeastScale width height (pos 100 *ℤ c.across.result) (pos 100 *ℤ c.upright.result) scale = simp to_z-of_z at c.least_scale.ensures.least in
    let at_width = subst (λ (a : ℤ). IsLeastScale width height (pos 100 *ℤ a) (pos 100 *ℤ c.upright.result) scale) wide least in
    simp (to_z-of_z fits_scale) (subst (λ (u : ℤ). IsLeastScale width height (pos 100 *ℤ across body_paper) (pos 100 *ℤ u) scale) high at_width)
