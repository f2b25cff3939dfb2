use Rattle.std.proofs.Common.{◌≡◌, ◌∙◌, ◌++◌}
use Rattle.sheet_paper.specs.FigureLines.{end_line}
use Rattle.sheet_figures.specs.SideViews.{figure_begin, frame_line}
use Rattle.sheet_figures.specs.SweptShapes.{swept_lines}
use Rattle.sheet_figures.specs.Refusals.{before_stroke, caption_words}
use Rattle.sheet_figures.proofs.Growing.{five_more}
use Rattle.sheet_figures.proofs.refusal.put_picture.Goals as goal

pub returns : goal.returns
returns c =
    let window = c.args.window.now in
    let job = c.args.job.now in
    let refused = c.args.refused.now in
    let boxes = c.args.drawing.now.before.items in
    let old = c.args.out.now.items in
    let told = c.in_ok-told.told in
    let title = told.title.items in
    let words = told.words.items in
    let swept = c.in_ok-put_swept.ensures in
    let first : c.put_begin.new.out.items ≡ old ++ figure_begin window title words = c.in_ok-put_begin.ensures ∙ (λ i. old ++ figure_begin window (c.as_slice.ensures.value i) (c.as_slice-2.ensures.value i)) in
    let second : c.put_before_stroke.new.out.items ≡ c.put_begin.new.out.items ++ before_stroke window job refused.action.stage boxes = c.in_ok-put_before_stroke.ensures ∙ (λ i. c.put_begin.new.out.items ++ before_stroke window job refused.action.stage (c.as_slice-boxes.ensures.value i)) in
    let last : c.put_figure_end.new.out.items ≡ c.put_frame.new.out.items ++ end_line window (caption_words title words) = c.in_ok-put_figure_end.ensures ∙ (λ i. c.put_frame.new.out.items ++ end_line window ((c.as_slice-3.ensures.value ∙ c.in_ok-caption.ensures) i)) in
    record {
      title = title;
      title_is = c.in_ok-told.ensures.title;
      words = words;
      words_are = c.in_ok-told.ensures.words;
      radii = swept.radii;
      radii_are = swept.radii_are;
      text = five_more old (figure_begin window title words) (before_stroke window job refused.action.stage boxes) (swept_lines window refused.swept swept.radii) (frame_line window) (end_line window (caption_words title words)) first second swept.text c.in_ok-put_frame.ensures last;
    }
