-- The view of a stroke from the side, before it. Lengths are in micrometres, widths in tenths of a
-- millimetre of paper.
use Rattle.std.specs.Prelude.{ℕ, ℤ, pos, neg_ℤ, ◌+ℤ◌, ◌*ℤ◌, List, [], ◌∷◌, ◌++◌, codes}
use Rattle.job_setup.specs.Setup.{JobData}
use Rattle.svg_text.specs.Forms.{line_of}
use Rattle.sheet_paper.specs.declared.forms.TheConstants.{GROUP_END}
use Rattle.sheet_paper.specs.declared.shapes.Dashes.TheVariants.{Whole as Unbroken, Dotted}
use Rattle.sheet_paper.specs.declared.window.Paper.{Paper}
use Rattle.sheet_paper.specs.declared.window.Window.{Window}
use Rattle.sheet_paper.specs.Windows.{right_of}
use Rattle.sheet_paper.specs.FigureLines.{LabelData, length_text, size_line, title_line, window_line, end_line, rectangle_line, frame_area, line_between, label_line}
use Rattle.sheet_paper.specs.Dimensions.{dimension_lines}
use Rattle.sheet_views.specs.declared.fingers.Fingers.{Fingers}
use Rattle.sheet_views.specs.declared.part_views.DrawnBox.{DrawnBox}
use Rattle.job_setup.specs.Reasons.{across}
use Rattle.sheet_words.specs.Lists.{mm}
use Rattle.sheet_figures.specs.declared.titles.TheConstants.{BACKGAUGE, BEFORE_SENTENCE, BEFORE_STROKE, BEHIND_LINE, OPERATOR}
use Rattle.sheet_figures.specs.declared.forms.TheConstants.{LOWERED}
use Rattle.sheet_figures.specs.declared.parts.Shown.TheVariants.{Whole}
use Rattle.sheet_figures.specs.Parts.{across_bed, part_lines}
use Rattle.sheet_figures.specs.Tools.{upper_lines, lower_lines}

-- the paper of a side view
abbrev pub side_paper : ℤ → Paper
side_paper width = record {
  width = width;
  height = pos 49;
  left = pos 1;
  right = pos 1;
  top = pos 1;
  bottom = pos 7;
}

-- the label of a lower corner of the window, and the words at both
abbrev pub corner_label : Window → (x right : ℤ) → (class : List ℕ) → LabelData
corner_label window x right class = record {
  x = x;
  y = neg_ℤ window.y;
  right = right;
  up = pos 9;
  size = pos 20;
  class = class;
}

unfoldable pub corner_names : Window → List ℕ
corner_names window =
    label_line window (corner_label window window.x (pos 8) (codes "soft s")) OPERATOR.now
    ++ label_line window
    (corner_label window (right_of window) (neg_ℤ (pos 8)) (codes "soft e")) BACKGAUGE.now

-- what follows is lowered by a length
abbrev pub lowered_line : Window → (by : ℤ) → List ℕ
lowered_line window by = line_of LOWERED.now (length_text window (neg_ℤ by) ∷ [])

abbrev pub group_end : List ℕ
group_end = line_of GROUP_END.now []

-- the tools before a stroke: the lower ones, lowered by the sheet's thickness, and the upper ones
unfoldable pub tools_before : Window → JobData → (stage : ℕ) → List ℕ
tools_before window job stage =
    lowered_line window job.part.thickness ++ lower_lines window job stage ++ group_end
    ++ upper_lines window job stage

-- the axis of the bend line, from above the sheet to below the window
abbrev pub axis_line : Window → (thickness : ℤ) → List ℕ
axis_line window thickness =
    line_between window (codes "bend") (pos 1) (Dotted (pos 20) (pos 6) (pos 3) (pos 6))
    (pos 0, thickness +ℤ (pos 10 *ℤ window.unit))
    (pos 0, neg_ℤ window.y +ℤ (pos 48 *ℤ window.unit))

-- the line from a finger's foot to as far below
abbrev pub foot_line : Window → Fingers → List ℕ
foot_line window fingers =
    line_between window (codes "thin") (pos 1) Unbroken (fingers.edge, neg_ℤ fingers.left.lo.z)
    (fingers.edge, neg_ℤ window.y +ℤ (pos 48 *ℤ window.unit))

-- the axis, the finger's foot, and between them the dimension, which reads the gauge
unfoldable pub gauge_marks : Window → (thickness : ℤ) → Fingers → List ℕ
gauge_marks window thickness fingers =
    axis_line window thickness ++ foot_line window fingers
    ++ dimension_lines window (pos 0) fingers.edge (neg_ℤ window.y +ℤ (pos 36 *ℤ window.unit))
    (mm fingers.edge)

-- what the view says to those who can't see it
unfoldable pub before_sentence : (edge : ℤ) → List ℕ
before_sentence edge =
    BEFORE_SENTENCE.now
    ++ mm edge ++ BEHIND_LINE.now

-- the shapes before a stroke: the tools, the left finger's box, and all boxes of the part
unfoldable pub before_shapes : Window → JobData → (stage : ℕ) → List DrawnBox → Fingers → List ℕ
before_shapes window job stage boxes fingers =
    tools_before window job stage
    ++ rectangle_line window (codes "finger") (pos 3) (across_bed (across fingers.left))
    ++ part_lines window Whole boxes ++ group_end

-- the beginning of a figure, and its frame
unfoldable pub figure_begin : Window → (title sentence : List ℕ) → List ℕ
figure_begin window title sentence =
    size_line window ++ title_line window title sentence ++ window_line window

abbrev pub frame_line : Window → List ℕ
frame_line window = rectangle_line window (codes "frame") (pos 1) (frame_area window)

-- the marks before a stroke: the frame, the words at its corners, and the gauge
unfoldable pub before_marks : Window → (thickness : ℤ) → Fingers → List ℕ
before_marks window thickness fingers =
    frame_line window ++ corner_names window ++ gauge_marks window thickness fingers

-- the figure before a stroke
unfoldable pub before_lines : Window → JobData → (stage : ℕ) → List DrawnBox → Fingers → List ℕ
before_lines window job stage boxes fingers =
    figure_begin window BEFORE_STROKE.now (before_sentence fingers.edge)
    ++ before_shapes window job stage boxes fingers
    ++ before_marks window job.part.thickness fingers ++ end_line window BEFORE_STROKE.now
