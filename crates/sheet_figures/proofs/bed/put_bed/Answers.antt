use Rattle.std.proofs.Common.{◌∙◌, ◌++◌, ℕ, ℤ, List, ap, subst, to_z-of_z}
use Rattle.sheet_paper.specs.FigureLines.{end_line}
use Rattle.sheet_figures.specs.declared.bed.TheConstants.{TITLE}
use Rattle.sheet_figures.specs.Beds.{bed_shapes, bed_end_line, IsBedWindow}
use Rattle.sheet_figures.proofs.Growing.{grown, grows_on, three_grow}
use Rattle.sheet_figures.proofs.bed.put_bed.Goals as goal

pub returns-clause-value : goal.returns-clause-value
returns-clause-value c =
    let window = c.bed_window-window.result in
    let bed = c.args.job.now.setup.bed in
    let window_is : IsBedWindow c.bed_of-bed.result c.args.number window = simp (to_z-of_z c.ranges.number) at c.bed_window-window.ensures.value in
    let shapes = bed_shapes window c.args.job.now.setup in
    let numbers = c.in_ok-put_marks.ensures.0 in
    let first = bed_end_line window bed.0 in
    let second = bed_end_line window bed.1 in
    let marks = c.in_ok-put_marks.ensures.1 ∙ ap (λ (b : ℤ × ℤ). c.put_shapes.new.out.items ++ numbers ++ bed_end_line window b.0 ++ bed_end_line window b.1) c.bed_of-bed.ensures.value in
    record {
      window = window;
      window_is = subst (λ (b : ℤ × ℤ). IsBedWindow b c.args.number window) c.bed_of-bed.ensures.value window_is;
      sentence = c.as_slice.result.now;
      numbers = numbers;
      text = c.in_ok-put_figure_end.ensures ∙ ap (λ (t : List ℕ). t ++ end_line window TITLE.now) (marks ∙ ap (λ (t : List ℕ). t ++ numbers ++ first ++ second) (c.in_ok-put_shapes.ensures ∙ ap (λ (t : List ℕ). t ++ shapes) c.in_ok-put_begin.ensures));
    }

pub returns-clause-grows : goal.returns-clause-grows
returns-clause-grows c =
    let marks = c.in_ok-put_marks.ensures in
    grows_on _ (grows_on _ (grows_on _ (grown _ _ c.in_ok-put_begin.ensures) (grown _ _ c.in_ok-put_shapes.ensures)) (three_grow _ _ _ _ marks.1)) (grown _ _ c.in_ok-put_figure_end.ensures)
