-- The stations in the views of the bed. Lengths are in micrometres.
use Rattle.std.specs.Prelude.{◌≡◌, ℕ, ℤ, pos, neg_ℤ, ◌+ℤ◌, ◌-ℤ◌, ◌*ℤ◌, List, [], ◌++◌, codes, flat_map}
use Rattle.std.specs.Fmt.{signed_decimal}
use Rattle.std.specs.Int.{int_max, int_div_euclid}
use Rattle.job_setup.specs.Setup.{StageData, SetupData, JobData}
use Rattle.sheet_paper.specs.declared.window.Area.{Area}
use Rattle.sheet_paper.specs.declared.window.Paper.{Paper}
use Rattle.sheet_paper.specs.declared.window.Window.{Window}
use Rattle.sheet_paper.specs.Scales.{IsLeastScale}
use Rattle.sheet_paper.specs.Windows.{window_around}
use Rattle.sheet_paper.specs.FigureLines.{LabelData, end_line, rectangle_line, leader_line, label_line, upright_line}
use Rattle.sheet_words.specs.Lists.{mm}
use Rattle.sheet_figures.specs.declared.bed.TheConstants.{TITLE}
use Rattle.sheet_figures.specs.SideViews.{group_end, figure_begin}

-- the label of a station's number, above a height of the paper
abbrev pub number_label : (at y : ℤ) → LabelData
number_label at y = record {
  x = at;
  y = y;
  right = pos 0;
  up = pos 32;
  size = pos 30;
  class = codes "big";
}

-- a station's number: a leader from its middle to the label
unfoldable pub station_mark : Window → (stage : ℕ) → (middle label y : ℤ) → List ℕ
station_mark window stage middle label y =
    leader_line window (middle, y) (middle, y -ℤ (pos 8 *ℤ window.unit))
    (label, y -ℤ (pos 20 *ℤ window.unit)) (label, y -ℤ (pos 26 *ℤ window.unit))
    ++ label_line window (number_label label y) (signed_decimal (pos stage))

-- a range of the bed between two heights, in tenths of a millimetre of paper
abbrev pub stripe : Window → (x0 x1 low high : ℤ) → Area
stripe window x0 x1 low high = record {
  x0 = x0;
  x1 = x1;
  y0 = low *ℤ window.unit;
  y1 = high *ℤ window.unit;
}

-- the middle between two places, rounded down
abbrev pub halfway : (low high : ℤ) → ℤ
halfway low high = int_div_euclid (low +ℤ high) (pos 2)

-- Half of the width at which a range is drawn: from its middle to its end, and 0.5 mm of paper at
-- least.
abbrev pub half_width : Window → (middle x1 : ℤ) → ℤ
half_width window middle x1 = int_max (x1 -ℤ middle) (pos 5 *ℤ window.unit)

-- the range of a station, as it is drawn
abbrev pub station_stripe : Window → (x0 x1 : ℤ) → Area
station_stripe window x0 x1 =
    let at = halfway x0 x1 in
    let half = half_width window at x1 in
    stripe window (at -ℤ half) (at +ℤ half) (pos 10) (pos 40)

-- the bed, a side frame and a station from the front
abbrev pub bed_range_line : Window → ℤ × ℤ → List ℕ
bed_range_line window bed =
    rectangle_line window (codes "edge") (pos 2) (stripe window bed.0 bed.1 (pos 10) (pos 40))

abbrev pub side_frame_line : Window → ℤ × ℤ → List ℕ
side_frame_line window frame =
    rectangle_line window (codes "body") (pos 2) (stripe window frame.0 frame.1 (pos 0) (pos 50))

abbrev pub station_line : Window → StageData → List ℕ
station_line window stage =
    rectangle_line window (codes "solid") (pos 1) (station_stripe window stage.x0 stage.x1)

-- the bed, its side frames and its stations
unfoldable pub bed_shapes : Window → SetupData → List ℕ
bed_shapes window setup =
    bed_range_line window setup.bed ++ flat_map (side_frame_line window) setup.frames
    ++ flat_map (station_line window) setup.stages ++ group_end

-- the label of an end of the bed, and its line
abbrev pub end_label : (at : ℤ) → LabelData
end_label at = record {
  x = at;
  y = pos 0;
  right = pos 0;
  up = neg_ℤ (pos 32);
  size = pos 24;
  class = [];
}

abbrev pub bed_end_line : Window → (at : ℤ) → List ℕ
bed_end_line window at = label_line window (end_label at) (mm at)

-- the label of a station's end, below the window, and its mark: a leader from the die's foot
abbrev pub foot_label : (at y : ℤ) → LabelData
foot_label at y = record {
  x = at;
  y = y;
  right = pos 9;
  up = pos 0;
  size = pos 26;
  class = codes "e";
}

unfoldable pub end_mark : Window → (end label die_foot : ℤ) → List ℕ
end_mark window end label die_foot =
    let foot = neg_ℤ window.y in
    leader_line window (end, die_foot) (end, foot +ℤ (pos 12 *ℤ window.unit))
    (label, foot +ℤ (pos 36 *ℤ window.unit)) (label, foot +ℤ (pos 44 *ℤ window.unit))
    ++ upright_line window (foot_label label (foot +ℤ (pos 48 *ℤ window.unit))) (mm end)

-- the text goes on with the numbers of the stations and both ends of the bed
abbrev pub HasBedMarks : Window → ℤ × ℤ → (before after : List ℕ) → Type 0
HasBedMarks window bed before after =
    (numbers : List ℕ)
    × (after ≡ before ++ numbers ++ bed_end_line window bed.0 ++ bed_end_line window bed.1)

-- the paper of the view, and what it shows at a scale: side frames are 5 mm high on the paper
abbrev pub bed_paper : Paper
bed_paper = record {
  width = pos 186;
  height = pos 18;
  left = pos 6;
  right = pos 6;
  top = pos 8;
  bottom = pos 5;
}

abbrev pub bed_area : (x0 x1 scale : ℤ) → Area
bed_area x0 x1 scale = record { x0 = x0; x1 = x1; y0 = pos 0; y1 = pos 50 *ℤ scale }

-- the window of the view, at the least scale at which the bed has room in 174 mm
pub record IsBedWindow (bed : ℤ × ℤ) (number : ℤ) (window : Window) : Type 0 where
  pub scale : ℤ
  pub least : IsLeastScale (bed.1 -ℤ bed.0) (pos 0) (pos 1740) (pos 1) scale
  pub value :
      window ≡ window_around bed_paper scale scale 3 (bed_area bed.0 bed.1 scale) number

-- The text goes on with a figure of the bed: its shapes in a window, and marks beside them.
pub record IsBedFigure (job : JobData) (number : ℤ) (before after : List ℕ) : Type 0 where
  pub window : Window
  pub window_is : IsBedWindow job.setup.bed number window
  pub sentence : List ℕ
  pub numbers : List ℕ
  pub text :
      after
      ≡ before ++ figure_begin window TITLE.now sentence ++ bed_shapes window job.setup ++ numbers
      ++ bed_end_line window job.setup.bed.0 ++ bed_end_line window job.setup.bed.1
      ++ end_line window TITLE.now
