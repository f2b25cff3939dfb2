use Rattle.std.proofs.Common.{◌∙◌, ◌++◌, ℕ, List, ap}
use Rattle.sheet_paper.specs.FigureLines.{end_line}
use Rattle.sheet_figures.specs.declared.front.TheConstants.{TITLE}
use Rattle.sheet_figures.specs.Fronts.{front_shapes}
use Rattle.sheet_figures.specs.SideViews.{frame_line}
use Rattle.sheet_figures.proofs.Growing.{grown, grows_on}
use Rattle.sheet_figures.proofs.front.put_view.Goals as goal

pub returns-clause-value : goal.returns-clause-value
returns-clause-value c =
    let window = c.args.window.now in
    let shapes = front_shapes window c.args.job.now in
    let marks = c.in_ok-put_marks.ensures.0 in
    (marks, c.in_ok-put_figure_end.ensures ∙ ap (λ (t : List ℕ). t ++ end_line window TITLE.now) (c.in_ok-put_marks.ensures.1 ∙ ap (λ (t : List ℕ). t ++ marks) (c.in_ok-put_frame.ensures ∙ ap (λ (t : List ℕ). t ++ frame_line window) (c.in_ok-put_shapes.ensures ∙ ap (λ (t : List ℕ). t ++ shapes) c.in_ok-put_begin.ensures))))

pub returns-clause-grows : goal.returns-clause-grows
returns-clause-grows c = grows_on _ (grows_on _ (grows_on _ (grows_on _ (grown _ _ c.in_ok-put_begin.ensures) (grown _ _ c.in_ok-put_shapes.ensures)) (grown _ _ c.in_ok-put_frame.ensures)) c.in_ok-put_marks.ensures) (grown _ _ c.in_ok-put_figure_end.ensures)
