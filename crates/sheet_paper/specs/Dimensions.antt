-- Dimensions: a line between two places along x with a head at each end, and its words.
use Rattle.std.specs.Prelude.{ℕ, ℤ, pos, neg_ℤ, ◌+ℤ◌, ◌-ℤ◌, ◌*ℤ◌, int_le, Bool, List, ◌++◌, codes, length, if◌then◌else◌}
use Rattle.std.specs.Int.{int_div_euclid}
use Rattle.sheet_paper.specs.declared.shapes.Dashes.TheVariants.{Whole}
use Rattle.sheet_paper.specs.declared.window.Window.{Window}
use Rattle.sheet_paper.specs.Windows.{right_of}
use Rattle.sheet_paper.specs.FigureLines.{LabelData, line_between, head_line, label_line}

-- the room between two places, in tenths of a millimetre of paper, rounded down
abbrev pub room_between : Window → (low high : ℤ) → ℤ
room_between window low high = int_div_euclid (high -ℤ low) window.unit

-- from this room on the heads point outwards
abbrev pub points_outwards : ℤ → Bool
points_outwards room = int_le (pos 44) room

-- how far beside the line its words stand, where they have no room over it
abbrev pub beside : ℤ → ℤ
beside room = if points_outwards room then pos 14 else pos 50

-- the right edge of the figure
abbrev pub figure_right : Window → ℤ
figure_right window =
    right_of window +ℤ ((pos 10 *ℤ window.paper.right) *ℤ window.unit)

-- the label of a dimension, moved so far from its place
abbrev pub words_from : (class : List ℕ) → (x y right : ℤ) → LabelData
words_from class x y right = record {
  x = x;
  y = y;
  right = right;
  up = neg_ℤ (pos 10);
  size = pos 30;
  class = class;
}

-- words of so many letters, 17 tenths each, have room over the line
abbrev pub is_over : (room letters : ℤ) → Bool
is_over room letters = int_le ((pos 17 *ℤ letters) +ℤ pos 44) room

-- beside the high end they don't leave the figure
abbrev pub is_behind : Window → (high beside letters : ℤ) → Bool
is_behind window high beside letters =
    int_le (high +ℤ ((beside +ℤ (pos 17 *ℤ letters)) *ℤ window.unit)) (figure_right window)

-- where the words stand: in the middle, else beside the high end where they don't leave the figure,
-- else beside the low end
abbrev pub words_label : Window → (low high y letters : ℤ) → LabelData
words_label window low high y letters =
    if is_over (room_between window low high) letters then
    words_from (codes "big") (int_div_euclid (low +ℤ high) (pos 2)) y (pos 0)
    else if is_behind window high (beside (room_between window low high)) letters then
    words_from (codes "big s") high y (beside (room_between window low high))
    else words_from (codes "big e") low y (neg_ℤ (beside (room_between window low high)))

-- how far the line reaches beyond its places, and where a head's foot lies
abbrev pub reach : ℤ → ℤ
reach room = if points_outwards room then pos 0 else pos 45

abbrev pub foot : ℤ → ℤ
foot room = if points_outwards room then pos 20 else neg_ℤ (pos 20)

-- the line of a dimension at a height of the paper, and its two heads
abbrev pub headed_line : Window → (low high y : ℤ) → List ℕ
headed_line window low high y =
    line_between window (codes "thin") (pos 1) Whole
    (low -ℤ (reach (room_between window low high) *ℤ window.unit), y)
    (high +ℤ (reach (room_between window low high) *ℤ window.unit), y)
    ++ head_line window low y (foot (room_between window low high))
    ++ head_line window high y (neg_ℤ (foot (room_between window low high)))

-- its words
abbrev pub words_line : Window → (low high y : ℤ) → (words : List ℕ) → List ℕ
words_line window low high y words =
    label_line window (words_label window low high y (pos (length words))) words

-- a dimension: its line, the two heads and its words
abbrev pub dimension_lines : Window → (low high y : ℤ) → (words : List ℕ) → List ℕ
dimension_lines window low high y words =
    headed_line window low high y ++ words_line window low high y words
