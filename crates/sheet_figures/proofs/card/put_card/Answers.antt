use Rattle.std.proofs.Common.{List, ℕ, ◌++◌, ◌∙◌, ap, FitsSigned, to_z-of_z, w64, subst}
use Rattle.sheet_paper.specs.declared.window.Paper.{Paper}
use Rattle.sheet_paper.specs.FigureLines.{end_line}
use Rattle.sheet_figures.specs.Cards.{card_shapes}
use Rattle.sheet_figures.specs.Strokes.{IsWindowFor}
use Rattle.sheet_figures.proofs.Growing.{grown, grows_on}
use Rattle.sheet_figures.proofs.card.put_card.Goals as goal

pub returns-clause-value : goal.returns-clause-value
returns-clause-value c =
    let area = c.card_area-area.result in
    let window = c.window_for-window.result in
    let title = c.as_slice-title.result.now in
    let shapes = card_shapes window c.args.job.now c.args.number in
    let fits_number : FitsSigned w64 c.args.figure = c.ranges.figure in
    let is : IsWindowFor c.framed.result area c.args.figure window = simp to_z-of_z at c.window_for-window.ensures.value in
    record {
      area = area;
      window = window;
      window_is = subst (λ (paper : Paper). IsWindowFor paper area c.args.figure window) c.framed.ensures is;
      title = title;
      sentence = c.as_slice.result.now;
      text = c.in_ok-put_figure_end.ensures ∙ ap (λ (t : List ℕ). t ++ end_line window title) (c.in_ok-put_view.ensures ∙ ap (λ (t : List ℕ). t ++ shapes) c.in_ok-put_begin.ensures);
    }

pub returns-clause-grows : goal.returns-clause-grows
returns-clause-grows c = grows_on _ (grows_on _ (grown _ _ c.in_ok-put_begin.ensures) (grown _ _ c.in_ok-put_view.ensures)) (grown _ _ c.in_ok-put_figure_end.ensures)
