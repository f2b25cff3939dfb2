use Rattle.std.proofs.Common.{pos, subst, FitsSigned, to_z-of_z, w64}
use Rattle.sheet_paper.specs.declared.window.Paper.{Paper}
use Rattle.sheet_figures.specs.Strokes.{IsToolsWindow}
use Rattle.sheet_figures.proofs.Growing.{grown}
use Rattle.sheet_figures.proofs.sides.put_at_tools.Goals as goal

pub returns-clause-value : goal.returns-clause-value
returns-clause-value c =
    let fits_number : FitsSigned w64 c.args.number = c.ranges.number in
    let window = c.tools_window-window.result in
    let is : IsToolsWindow c.side_paper.result (pos 110) c.args.job.now c.args.action.stage c.args.number window = simp to_z-of_z at c.tools_window-window.ensures.value in
    let on_paper = subst (λ (paper : Paper). IsToolsWindow paper (pos 110) c.args.job.now c.args.action.stage c.args.number window) c.side_paper.ensures.value is in
    record { window = window; window_is = on_paper; text = c.in_ok-put_near.ensures }

pub returns-clause-grows : goal.returns-clause-grows
returns-clause-grows c = grown _ _ c.in_ok-put_near.ensures
