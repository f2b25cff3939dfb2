-- Pictures on paper, and the window through which each shows.
use Rattle.std.specs.Prelude.{ℕ, ◌^◌, ◌<◌, ◌≤◌, ℤ, pos, ◌+ℤ◌, ◌-ℤ◌, ◌*ℤ◌, ◌≤ℤ◌, unsigned_abs}
use Rattle.std.specs.Int.{int_min, int_max, int_div_euclid}
use Rattle.sheet_paper.specs.declared.window.Area.{Area}
use Rattle.sheet_paper.specs.declared.window.Paper.{Paper}
use Rattle.sheet_paper.specs.declared.window.Window.{Window}

-- no number of the paper is above a metre, in millimetres
pub record IsPaper (paper : Paper) : Type 0 where
  pub width : unsigned_abs paper.width ≤ 2 ^ 10
  pub height : unsigned_abs paper.height ≤ 2 ^ 10
  pub left : unsigned_abs paper.left ≤ 2 ^ 10
  pub right : unsigned_abs paper.right ≤ 2 ^ 10
  pub top : unsigned_abs paper.top ≤ 2 ^ 10
  pub bottom : unsigned_abs paper.bottom ≤ 2 ^ 10

-- the paper with one margin on all sides
abbrev pub framed : (width height margin : ℤ) → Paper
framed width height margin = record {
  width = width;
  height = height;
  left = margin;
  right = margin;
  top = margin;
  bottom = margin;
}

-- the area can be drawn: its places lie within 2^48 units of the picture
pub record IsDrawable (area : Area) : Type 0 where
  pub x0 : unsigned_abs area.x0 ≤ 2 ^ 48
  pub x1 : unsigned_abs area.x1 ≤ 2 ^ 48
  pub y0 : unsigned_abs area.y0 ≤ 2 ^ 48
  pub y1 : unsigned_abs area.y1 ≤ 2 ^ 48

-- the least area that holds both
abbrev pub joined : Area → Area → Area
joined a b = record {
  x0 = int_min a.x0 b.x0;
  x1 = int_max a.x1 b.x1;
  y0 = int_min a.y0 b.y0;
  y1 = int_max a.y1 b.y1;
}

-- the area of one point
abbrev pub point_area : ℤ → ℤ → Area
point_area x y = record { x0 = x; x1 = x; y0 = y; y1 = y }

-- how wide and how high a paper's window is, in tenths of a millimetre
abbrev pub across : Paper → ℤ
across paper = pos 10 *ℤ ((paper.width -ℤ paper.left) -ℤ paper.right)

abbrev pub upright : Paper → ℤ
upright paper = pos 10 *ℤ ((paper.height -ℤ paper.top) -ℤ paper.bottom)

-- where a room begins that has a range in its middle: half of what is left over, rounded down, is
-- before the range
abbrev pub begin_around : (room low high : ℤ) → ℤ
begin_around room low high = low -ℤ int_div_euclid (room -ℤ (high -ℤ low)) (pos 2)

-- the scale is one of a picture: 1 to 2^23 micrometres to a tenth of a millimetre of paper
pub record IsScale (scale : ℤ) : Type 0 where
  pub some : pos 1 ≤ℤ scale
  pub near : scale ≤ℤ pos 8388608

-- a window: its unit is 1 to 2^30 units of the picture to a tenth of a millimetre of paper
pub record IsWindow (window : Window) : Type 0 where
  pub paper : IsPaper window.paper
  pub scale : IsScale window.scale
  pub some : pos 1 ≤ℤ window.unit
  pub unit : unsigned_abs window.unit ≤ 2 ^ 30
  pub places : 0 < window.places
  pub few : window.places ≤ 6
  pub x : unsigned_abs window.x ≤ 2 ^ 50
  pub y : unsigned_abs window.y ≤ 2 ^ 50

-- the window with the area in its middle
abbrev pub window_around : Paper → (scale unit : ℤ) → ℕ → Area → ℤ → Window
window_around paper scale unit places area number = record {
  paper = paper;
  scale = scale;
  unit = unit;
  places = places;
  number = number;
  x = begin_around (across paper *ℤ unit) area.x0 area.x1;
  y = begin_around (upright paper *ℤ unit) area.y0 area.y1;
}

-- the window's right and its upper edge
abbrev pub right_of : Window → ℤ
right_of window = window.x +ℤ (across window.paper *ℤ window.unit)

abbrev pub top_of : Window → ℤ
top_of window = window.y +ℤ (upright window.paper *ℤ window.unit)

-- the area lies in the window: nothing of it is cut
pub record Shows (window : Window) (area : Area) : Type 0 where
  pub left : window.x ≤ℤ area.x0
  pub right : area.x1 ≤ℤ right_of window
  pub bottom : window.y ≤ℤ area.y0
  pub top : area.y1 ≤ℤ top_of window
