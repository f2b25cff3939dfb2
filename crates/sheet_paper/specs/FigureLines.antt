-- The lines of a figure, each its form with these texts in its holes. Widths, dashes and radii are in tenths of a
-- millimetre of paper. Marks stand on the paper, whose second coordinate counts downwards.
use Rattle.std.specs.Prelude.{ℕ, ◌^◌, ◌≤◌, ◌==◌, ℤ, pos, neg_ℤ, ◌+ℤ◌, ◌-ℤ◌, ◌*ℤ◌, int_le, unsigned_abs}
use Rattle.std.specs.Prelude.{List, [], ◌∷◌, length, if◌then◌else◌}
use Rattle.std.specs.Fmt.{signed_decimal}
use Rattle.std.specs.Int.{int_div_euclid}
use Rattle.svg_text.specs.Decimals.{decimal_text}
use Rattle.svg_text.specs.Escapes.{escaped}
use Rattle.svg_text.specs.Forms.{line_of}
use Rattle.sheet_paper.specs.declared.forms.TheConstants.{FIGURE, TITLE, WINDOW, FIGURE_END, RECTANGLE, LINE, DASHED, DOTTED, LEADER, HEAD, CORNER, CIRCLE, TEXT, TEXT_WITH, TEXT_UPRIGHT, TEXT_UPRIGHT_WITH}
use Rattle.sheet_paper.specs.declared.labels.Label.{Label}
use Rattle.sheet_paper.specs.declared.shapes.Dashes.{Dashes}
use Rattle.sheet_paper.specs.declared.shapes.Dashes.TheVariants.{Whole, Dashed, Dotted}
use Rattle.sheet_paper.specs.declared.window.Area.{Area}
use Rattle.sheet_paper.specs.declared.window.Window.{Window}
use Rattle.sheet_paper.specs.Windows.{right_of, top_of}

-- a length of the picture, in millimetres, and one of so many tenths of a millimetre of paper
abbrev pub length_text : Window → ℤ → List ℕ
length_text window value = decimal_text window.places value

abbrev pub width_text : Window → ℤ → List ℕ
width_text window tenths = length_text window (tenths *ℤ window.unit)

-- ---- the frame of a figure
-- the figure's left edge, and its upper edge on the paper
abbrev pub figure_left : Window → ℤ
figure_left window = window.x -ℤ ((pos 10 *ℤ window.paper.left) *ℤ window.unit)

abbrev pub figure_head : Window → ℤ
figure_head window = neg_ℤ (top_of window) -ℤ ((pos 10 *ℤ window.paper.top) *ℤ window.unit)

-- the figure's size on paper, and what of the picture that shows
abbrev pub size_line : Window → List ℕ
size_line window =
    line_of FIGURE.now
    (signed_decimal window.paper.width ∷ signed_decimal window.paper.width
    ∷ signed_decimal window.paper.height
    ∷ length_text window (figure_left window) ∷ length_text window (figure_head window)
    ∷ width_text window (pos 10 *ℤ window.paper.width)
    ∷ width_text window (pos 10 *ℤ window.paper.height) ∷ signed_decimal window.number
    ∷ signed_decimal window.number ∷ [])

-- the figure's title, and a sentence for those who can't see it
abbrev pub title_line : Window → (title sentence : List ℕ) → List ℕ
title_line window title sentence =
    line_of TITLE.now
    (signed_decimal window.number ∷ escaped title ∷ signed_decimal window.number
    ∷ escaped sentence ∷ [])

-- the window: shapes are cut at it, and their second coordinate counts upwards
abbrev pub window_line : Window → List ℕ
window_line window =
    line_of WINDOW.now
    (signed_decimal window.number ∷ length_text window window.x ∷ length_text window window.y
    ∷ length_text window (right_of window) ∷ length_text window (top_of window)
    ∷ length_text window window.x ∷ signed_decimal window.number ∷ [])

-- the two numbers of a scale, in hundredths: 1 and how many times the part is greater, or how many
-- times the picture is, and 1
abbrev pub printed_scale : ℤ → ℤ × ℤ
printed_scale scale =
    if int_le (pos 100) scale then (pos 100, scale)
    else (int_div_euclid (pos 10000) scale, pos 100)

-- the end of a figure: its caption and its scale
abbrev pub end_line : Window → (caption : List ℕ) → List ℕ
end_line window caption =
    line_of FIGURE_END.now
    (escaped caption ∷ decimal_text 2 (printed_scale window.scale).0
    ∷ decimal_text 2 (printed_scale window.scale).1 ∷ [])

-- ---- shapes
-- a rectangle of a class
abbrev pub rectangle_line : Window → (class : List ℕ) → (width : ℤ) → Area → List ℕ
rectangle_line window class width area =
    line_of RECTANGLE.now
    (class ∷ width_text window width ∷ length_text window area.x0 ∷ length_text window area.y0
    ∷ length_text window area.x1 ∷ length_text window area.y1 ∷ length_text window area.x0 ∷ [])

-- the frame around the window, as a mark
abbrev pub frame_area : Window → Area
frame_area window = record {
  x0 = window.x;
  x1 = right_of window;
  y0 = neg_ℤ (top_of window);
  y1 = neg_ℤ window.y;
}

-- how a line is broken: all lengths are at most 2^20 tenths of a millimetre
abbrev pub IsDashes : Dashes → Type 0
IsDashes Whole = Unit {0}
IsDashes (Dashed dash room) = (unsigned_abs dash ≤ 2 ^ 20) × (unsigned_abs room ≤ 2 ^ 20)
IsDashes (Dotted dash room dot second) =
    (unsigned_abs dash ≤ 2 ^ 20) × (unsigned_abs room ≤ 2 ^ 20) × (unsigned_abs dot ≤ 2 ^ 20)
    × (unsigned_abs second ≤ 2 ^ 20)

-- the ends of a line
abbrev pub ends_texts : Window → (from to : ℤ × ℤ) → List (List ℕ)
ends_texts window from to =
    length_text window from.0 ∷ length_text window from.1 ∷ length_text window to.0
    ∷ length_text window to.1 ∷ []

-- a line between two points: whole, in dashes, or in dashes and dots
abbrev pub line_between : Window → (class : List ℕ) → (width : ℤ) → Dashes → (from to : ℤ × ℤ) → List ℕ
line_between window class width Whole from to =
    line_of LINE.now (class ∷ width_text window width ∷ ends_texts window from to)
line_between window class width (Dashed dash room) from to =
    line_of DASHED.now
    (class ∷ width_text window width ∷ width_text window dash ∷ width_text window room
    ∷ ends_texts window from to)
line_between window class width (Dotted dash room dot second) from to =
    line_of DOTTED.now
    (class ∷ width_text window width ∷ width_text window dash ∷ width_text window room
    ∷ width_text window dot ∷ width_text window second ∷ ends_texts window from to)

-- a circle around a point
abbrev pub circle_line : Window → (class : List ℕ) → (width : ℤ) → (at : ℤ × ℤ) → (radius : ℤ) → List ℕ
circle_line window class width at radius =
    line_of CIRCLE.now
    (class ∷ width_text window width ∷ length_text window at.0 ∷ length_text window at.1
    ∷ width_text window radius ∷ [])

-- ---- marks
-- a line through four points, from a place of the picture to its label
abbrev pub leader_line : Window → (a b c d : ℤ × ℤ) → List ℕ
leader_line window a b c d =
    line_of LEADER.now
    (width_text window (pos 1) ∷ length_text window a.0 ∷ length_text window a.1
    ∷ length_text window b.0 ∷ length_text window b.1 ∷ length_text window c.0
    ∷ length_text window c.1 ∷ length_text window d.0 ∷ length_text window d.1 ∷ [])

-- a triangle, which marks a corner
abbrev pub triangle_line : Window → (class : List ℕ) → (width : ℤ) → (a b c : ℤ × ℤ) → List ℕ
triangle_line window class width a b c =
    line_of CORNER.now
    (class ∷ width_text window width ∷ length_text window a.0 ∷ length_text window a.1
    ∷ length_text window b.0 ∷ length_text window b.1 ∷ length_text window c.0
    ∷ length_text window c.1 ∷ [])

-- the head of a dimension's line: its point, and its foot so many tenths to the right
abbrev pub head_line : Window → (x y foot : ℤ) → List ℕ
head_line window x y foot =
    line_of HEAD.now
    (length_text window x ∷ length_text window y
    ∷ length_text window (x +ℤ (foot *ℤ window.unit))
    ∷ length_text window (y -ℤ (pos 6 *ℤ window.unit))
    ∷ length_text window (x +ℤ (foot *ℤ window.unit))
    ∷ length_text window (y +ℤ (pos 6 *ℤ window.unit)) ∷ [])

-- ---- labels
-- where a text stands and how: its point, how far it is moved from there to the right and upwards,
-- how high its letters are, and its class
pub record LabelData : Type 0 where
  pub x : ℤ
  pub y : ℤ
  pub right : ℤ
  pub up : ℤ
  pub size : ℤ
  pub class : List ℕ

abbrev pub label_data : Label → LabelData
label_data label = record {
  x = label.at.0;
  y = label.at.1;
  right = label.moved.0;
  up = label.moved.1;
  size = label.size;
  class = label.class.now;
}

-- a label that can be put
pub record IsLabel (label : LabelData) : Type 0 where
  pub x : unsigned_abs label.x ≤ 2 ^ 58
  pub y : unsigned_abs label.y ≤ 2 ^ 58
  pub right : unsigned_abs label.right ≤ 2 ^ 20
  pub up : unsigned_abs label.up ≤ 2 ^ 20
  pub size : unsigned_abs label.size ≤ 2 ^ 20

-- a text of this form
abbrev pub plain_line : (form : List ℕ) → Window → LabelData → (words : List ℕ) → List ℕ
plain_line form window label words =
    line_of form
    (label.class ∷ length_text window (label.x +ℤ (label.right *ℤ window.unit))
    ∷ length_text window (label.y -ℤ (label.up *ℤ window.unit)) ∷ width_text window (pos 1)
    ∷ signed_decimal label.size ∷ escaped words ∷ [])

-- one with a small grey note before it
abbrev pub with_line : (form : List ℕ) → Window → LabelData → (note words : List ℕ) → List ℕ
with_line form window label note words =
    line_of form
    (label.class ∷ length_text window (label.x +ℤ (label.right *ℤ window.unit))
    ∷ length_text window (label.y -ℤ (label.up *ℤ window.unit)) ∷ width_text window (pos 1)
    ∷ signed_decimal label.size ∷ signed_decimal (label.size -ℤ pos 4) ∷ escaped note
    ∷ escaped words ∷ [])

-- a text, and one that reads upwards
abbrev pub label_line : Window → LabelData → (words : List ℕ) → List ℕ
label_line window label words = plain_line TEXT.now window label words

abbrev pub upright_line : Window → LabelData → (words : List ℕ) → List ℕ
upright_line window label words = plain_line TEXT_UPRIGHT.now window label words

-- the same with a note before it, where that isn't empty
abbrev pub noted_line : Window → LabelData → (note words : List ℕ) → List ℕ
noted_line window label note words =
    if length note == 0 then label_line window label words
    else with_line TEXT_WITH.now window label note words

abbrev pub noted_upright_line : Window → LabelData → (note words : List ℕ) → List ℕ
noted_upright_line window label note words =
    if length note == 0 then upright_line window label words
    else with_line TEXT_UPRIGHT_WITH.now window label note words
