-- The stations from the front. Lengths are in micrometres, widths in tenths of a millimetre of paper.
use Rattle.std.specs.Prelude.{◌≡◌, ℕ, ◌+◌, ℤ, pos, neg_ℤ, ◌+ℤ◌, int_lt, List, [], ◌∷◌, ◌++◌, take, length, codes, flat_map}
use Rattle.std.specs.Prelude.{if◌then◌else◌}
use Rattle.machine_file.specs.declared.machine.Fixed.{Fixed}
use Rattle.job_setup.specs.Setup.{StageData, JobData}
use Rattle.job_setup.specs.Obstacles.{upper_boxes, lower_boxes}
use Rattle.sheet_paper.specs.declared.shapes.Dashes.TheVariants.{Whole}
use Rattle.sheet_paper.specs.declared.window.Area.{Area}
use Rattle.sheet_paper.specs.declared.window.Paper.{Paper}
use Rattle.sheet_paper.specs.declared.window.Window.{Window}
use Rattle.sheet_paper.specs.FigureLines.{end_line, rectangle_line, line_between}
use Rattle.sheet_figures.specs.declared.front.TheConstants.{TITLE, SENTENCE}
use Rattle.sheet_figures.specs.declared.forms.TheConstants.{UPPER_BOX, LOWER_BOX}
use Rattle.sheet_figures.specs.SideViews.{group_end, figure_begin, frame_line}
use Rattle.sheet_figures.specs.Tools.{numbered_line}
use Rattle.sheet_figures.specs.Strokes.{IsWindowFor}

-- the rectangle of a box from the front
abbrev pub front_of : Fixed → Area
front_of box = record { x0 = box.x0; x1 = box.x1; y0 = box.rect.z0; y1 = box.rect.z1 }

-- boxes by their rectangles and their numbers, from a number on
abbrev pub machine_lines : (form : List ℕ) → Window → (index : ℕ) → List Fixed → List ℕ
machine_lines form window index [] = []
machine_lines form window index (box ∷ boxes) =
    numbered_line form window index (front_of box) ++ machine_lines form window (index + 1) boxes

-- the machine's boxes, which are the first of the upper and of the lower group
unfoldable pub machine_shapes : Window → JobData → List ℕ
machine_shapes window job =
    machine_lines UPPER_BOX.now window 0 (take (length job.setup.upper) (upper_boxes job))
    ++ machine_lines LOWER_BOX.now window 0 (take (length job.setup.lower) (lower_boxes job))

-- the rectangles of a station's punch and die
abbrev pub punch_area : StageData → Area
punch_area stage = record { x0 = stage.x0; x1 = stage.x1; y0 = pos 0; y1 = stage.punch.height }

abbrev pub die_area : StageData → Area
die_area stage = record {
  x0 = stage.x0;
  x1 = stage.x1;
  y0 = neg_ℤ stage.die.height;
  y1 = pos 0;
}

-- a line over punch and die, where two pieces meet
abbrev pub joint_line : Window → StageData → (at : ℤ) → List ℕ
joint_line window stage at =
    line_between window (codes "thin") (pos 1) Whole (at, neg_ℤ stage.die.height)
    (at, stage.punch.height)

-- what the end of a piece shows: a joint, where the station goes on
unfoldable pub piece_end : Window → StageData → (at : ℤ) → List ℕ
piece_end window stage at = if int_lt at stage.x1 then joint_line window stage at else []

-- the joints of some pieces, from a place on
abbrev pub joint_lines : Window → StageData → (from : ℤ) → List ℤ → List ℕ
joint_lines window stage from [] = []
joint_lines window stage from (piece ∷ pieces) =
    piece_end window stage (from +ℤ piece) ++ joint_lines window stage (from +ℤ piece) pieces

-- a station: its punch, its die, and its joints
unfoldable pub front_station : Window → StageData → List ℕ
front_station window stage =
    rectangle_line window (codes "body") (pos 2) (punch_area stage)
    ++ rectangle_line window (codes "body") (pos 2) (die_area stage)
    ++ joint_lines window stage stage.x0 stage.pieces

-- the machine's boxes and all stations
unfoldable pub front_shapes : Window → JobData → List ℕ
front_shapes window job =
    machine_shapes window job ++ flat_map (front_station window) job.setup.stages ++ group_end

-- the text goes on with the figure in a window, and with some marks
abbrev pub HasFrontLines : Window → JobData → (before after : List ℕ) → Type 0
HasFrontLines window job before after =
    (marks : List ℕ)
    × (after ≡ before ++ figure_begin window TITLE.now SENTENCE.now ++ front_shapes window job
    ++ frame_line window ++ marks ++ end_line window TITLE.now)

-- the paper of the view, with this much room below the window
abbrev pub front_paper : (low : ℤ) → Paper
front_paper low = record {
  width = pos 186;
  height = pos 42 +ℤ low;
  left = pos 1;
  right = pos 1;
  top = pos 7;
  bottom = low;
}

-- the window of the view, around an area
pub record IsFrontWindow (number : ℤ) (window : Window) : Type 0 where
  pub low : ℤ
  pub area : Area
  pub value : IsWindowFor (front_paper low) area number window

-- The text goes on with a figure of the stations: the machine's boxes, all stations, the frame, and
-- marks beside them, in a window.
pub record IsFrontFigure (job : JobData) (number : ℤ) (before after : List ℕ) : Type 0 where
  pub window : Window
  pub window_is : IsFrontWindow number window
  pub lines : HasFrontLines window job before after
