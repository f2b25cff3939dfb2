use Rattle.std.proofs.Common.{◌≡◌, ◌∙◌, ap, ◌+◌, ◌^◌, ℤ, pos, ◌+ℤ◌, subst, FitsSigned, to_z-of_z, w64, arith}
use Rattle.std.proofs.lemmas.Int.{ints}
use Rattle.algebra.proofs.Widths.{abs-add, fits_64}
use Rattle.sheet_paper.specs.declared.window.Area.{Area}
use Rattle.sheet_paper.specs.declared.window.Paper.{Paper}
use Rattle.sheet_figures.specs.Strokes.{IsWindowFor, IsToolsWindow}
use Rattle.sheet_figures.specs.Refusals.{refusal_paper, shows_more}
use Rattle.sheet_figures.proofs.refusal.refusal_windows.Goals as goal

pub overflow_add-number : goal.overflow_add-number
overflow_add-number c =
    let fits_number : FitsSigned w64 c.args.number = c.ranges.number in
    simp to_z-of_z (fits_64 _ (2 ^ 20 + 1) (abs-add c.args.number (pos 1) (2 ^ 20) 1 c.requires.number (omega arith)) (omega arith))

pub returns-clause-value : goal.returns-clause-value
returns-clause-value c =
    let number = c.args.number in
    let job = c.args.job.now in
    let refused = c.args.refused.now in
    let cover = refused.swept.cover in
    let stage = refused.action.stage in
    let shown = c.refusal_area-shown.result in
    let window = c.window_for-around.result in
    let near = c.tools_window-near.result in
    let v = c.opening-v.result in
    let large = c.window_for-around.ensures.valid.scale in
    let small = c.tools_window-near.ensures.valid.scale in
    let fits_number : FitsSigned w64 number = c.ranges.number in
    let fits_next : FitsSigned w64 (number +ℤ pos 1) = fits_64 _ (2 ^ 20 + 1) (abs-add number (pos 1) (2 ^ 20) 1 c.requires.number (omega arith)) (omega arith) in
    let fits_v : FitsSigned w64 v = fits_64 _ (2 ^ 20) (omega (arith, ints, c.opening-v.ensures.some, c.opening-v.ensures.few)) (omega arith) in
    let fits_window : FitsSigned w64 window.scale = fits_64 _ (2 ^ 24) (omega (arith, ints, large.some, large.near)) (omega arith) in
    let fits_near : FitsSigned w64 near.scale = fits_64 _ (2 ^ 24) (omega (arith, ints, small.some, small.near)) (omega arith) in
    let told : c.shows_more-shows_more.result ≡ shows_more v window.scale near.scale cover = simp to_z-of_z at c.shows_more-shows_more.ensures in
    let is : IsWindowFor c.refusal_paper.result c.near_area.result number window = simp to_z-of_z at c.window_for-around.ensures.value in
    let on_paper = subst (λ (paper : Paper). IsWindowFor paper c.near_area.result number window) c.refusal_paper.ensures.value is in
    let second : IsToolsWindow c.refusal_paper-2.result (pos 80) job stage (number +ℤ pos 1) near = simp to_z-of_z at c.tools_window-near.ensures.value in
    record {
      shown = shown;
      least = c.refusal_area-shown.ensures.value;
      around = subst (λ (area : Area). IsWindowFor refusal_paper area number window) c.near_area.ensures.value on_paper;
      near = subst (λ (paper : Paper). IsToolsWindow paper (pos 80) job stage (number +ℤ pos 1) near) c.refusal_paper-2.ensures.value second;
      more = told ∙ ap (λ (length : ℤ). shows_more length window.scale near.scale cover) c.opening-v.ensures.value;
    }
