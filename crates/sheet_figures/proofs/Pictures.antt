-- A picture of a refused stroke is appended.
use Rattle.std.proofs.Common.{ℕ, Bool, List, ◌++◌, refl}
use Rattle.job_setup.specs.Setup.{JobData}
use Rattle.sheet_paper.specs.declared.window.Window.{Window}
use Rattle.sheet_paper.specs.FigureLines.{end_line}
use Rattle.sheet_views.specs.Drawing.{DrawingData}
use Rattle.sheet_figures.specs.declared.refusal.Refused.{Refused}
use Rattle.sheet_figures.specs.Extending.{Extends}
use Rattle.sheet_figures.specs.SideViews.{figure_begin, frame_line}
use Rattle.sheet_figures.specs.SweptShapes.{swept_lines}
use Rattle.sheet_figures.specs.Refusals.{before_stroke, caption_words, IsPicture}
use Rattle.sheet_figures.proofs.Growing.{grown, grows_on, three_grow}

pub picture_grows : {window : Window} {job : JobData} {drawing : DrawingData} {refused : Refused} {is_near : Bool} {before after : List ℕ} → IsPicture window job drawing refused is_near before after → Extends before after
picture_grows {window = window} {job = job} {drawing = drawing} {refused = refused} {before = before} picture =
    let begin = figure_begin window picture.title picture.words in
    let stroke = before_stroke window job refused.action.stage drawing.before in
    grows_on before (grown before begin refl) (grows_on (before ++ begin) (grown (before ++ begin) stroke refl)
    (three_grow (before ++ begin ++ stroke) (swept_lines window refused.swept picture.radii) (frame_line window) (end_line window (caption_words picture.title picture.words)) picture.text))
