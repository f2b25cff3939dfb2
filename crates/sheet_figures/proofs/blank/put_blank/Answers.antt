use Rattle.std.proofs.Common.{List, ℕ, ◌++◌, ◌∙◌, ap, to_z-of_z}
use Rattle.sheet_paper.specs.FigureLines.{end_line}
use Rattle.sheet_figures.specs.declared.blank.TheConstants.{TITLE}
use Rattle.sheet_figures.specs.Blanks.{blank_shapes, IsBlankWindow}
use Rattle.sheet_figures.proofs.Growing.{grown, grows_on}
use Rattle.sheet_figures.proofs.blank.put_blank.Goals as goal

pub returns-clause-grows : goal.returns-clause-grows
returns-clause-grows c = grows_on _ (grows_on _ (grows_on _ (grown _ _ c.in_ok-put_begin.ensures) (grown _ _ c.in_ok-put_shapes.ensures)) c.in_ok-put_marks.ensures) (grown _ _ c.in_ok-put_figure_end.ensures)

pub returns-clause-value : goal.returns-clause-value
returns-clause-value c =
    let window = c.blank_window-window.result in
    let window_is : IsBlankWindow c.args.flat.now c.args.strokes c.args.number window = simp (to_z-of_z c.ranges.strokes, to_z-of_z c.ranges.number) at c.blank_window-window.ensures.value in
    let shapes = blank_shapes window c.args.flat.now in
    let marks = c.in_ok-put_marks.ensures.0 in
    record {
      window = window;
      window_is = window_is;
      sentence = c.as_slice.result.now;
      marks = marks;
      text = c.in_ok-put_figure_end.ensures ∙ ap (λ (t : List ℕ). t ++ end_line window TITLE.now) (c.in_ok-put_marks.ensures.1 ∙ ap (λ (t : List ℕ). t ++ marks) (c.in_ok-put_shapes.ensures ∙ ap (λ (t : List ℕ). t ++ shapes) c.in_ok-put_begin.ensures));
    }
