use Rattle.std.proofs.Common.{◌≡◌, to_z-of_z, subst}
use Rattle.sheet_paper.specs.declared.window.Paper.{Paper}
use Rattle.sheet_figures.specs.Fronts.{front_paper}
use Rattle.sheet_figures.specs.Strokes.{IsWindowFor}
use Rattle.sheet_figures.proofs.front.front_window.Goals as goal

pub returns-clause-value : goal.returns-clause-value
returns-clause-value c =
    let area = c.front_area-area.result in
    let window = c.window_for.result in
    let number = c.args.number in
    let paper : c.front_paper.result ≡ front_paper c.args.low = simp (to_z-of_z c.ranges.low) at c.front_paper.ensures.value in
    let is : IsWindowFor c.front_paper.result area number window = simp (to_z-of_z c.ranges.number) at c.window_for.ensures.value in
    record { low = c.args.low; area = area; value = subst (λ (p : Paper). IsWindowFor p area number window) paper is }
