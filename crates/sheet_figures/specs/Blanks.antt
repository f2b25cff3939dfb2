-- The drawn blank. Lengths are in micrometres, widths in tenths of a millimetre of paper.
use Rattle.std.specs.Prelude.{◌≡◌, ℤ, pos, ◌-ℤ◌, ◌*ℤ◌, ℕ, List, ◌++◌, codes, flat_map}
use Rattle.std.specs.Int.{int_max}
use Rattle.part_file.specs.declared.part.Dir.{Dir}
use Rattle.part_file.specs.declared.part.Dir.TheVariants.{Up, Down}
use Rattle.unfolder.specs.declared.blank.FlatFace.{FlatFace}
use Rattle.unfolder.specs.declared.blank.BendLine.{BendLine}
use Rattle.sheet_paper.specs.declared.shapes.Dashes.{Dashes}
use Rattle.sheet_paper.specs.declared.shapes.Dashes.TheVariants.{Whole, Dashed, Dotted}
use Rattle.sheet_paper.specs.declared.window.Area.{Area}
use Rattle.sheet_paper.specs.declared.window.Paper.{Paper}
use Rattle.sheet_paper.specs.declared.window.Window.{Window}
use Rattle.sheet_paper.specs.Scales.{IsLeastScale}
use Rattle.sheet_paper.specs.Windows.{window_around}
use Rattle.sheet_paper.specs.FigureLines.{end_line, rectangle_line, line_between}
use Rattle.sheet_figures.specs.declared.blank.Flat.{Flat}
use Rattle.sheet_figures.specs.declared.blank.TheConstants.{TITLE}
use Rattle.sheet_figures.specs.SideViews.{group_end, figure_begin}

-- the rectangle of a face, of a class and a width
abbrev pub face_area : FlatFace → Area
face_area face = record {
  x0 = face.rect.x0;
  x1 = face.rect.x1;
  y0 = face.rect.y0;
  y1 = face.rect.y1;
}

abbrev pub face_line : (class : List ℕ) → (width : ℤ) → Window → FlatFace → List ℕ
face_line class width window face = rectangle_line window class width (face_area face)

-- how the line of a bend is broken: in dashes for up, in dashes and dots for down
abbrev pub bend_dashes : Dir → Dashes
bend_dashes Up = Dashed (pos 30) (pos 10)
bend_dashes Down = Dotted (pos 18) (pos 6) (pos 3) (pos 6)

-- the line of a bend: a bare stripe, and on it the dashes of its direction
abbrev pub bend_text : Window → BendLine → List ℕ
bend_text window line =
    line_between window (codes "bare") (pos 6) Whole line.from line.to
    ++ line_between window (codes "bend") (pos 4) (bend_dashes line.dir) line.from line.to

-- the shapes of a blank: all faces, the edges of all faces, and the lines of all bends
unfoldable pub blank_shapes : Window → Flat → List ℕ
blank_shapes window flat =
    flat_map (face_line (codes "sheet") (pos 0) window) flat.blank.faces.items
    ++ flat_map (face_line (codes "edge") (pos 3) window) flat.blank.faces.items
    ++ flat_map (bend_text window) flat.blank.bends.items ++ group_end

-- How high the blank may be on paper, in tenths of a millimetre, so that the order of so many
-- strokes has room on its page.
abbrev pub most_upright : (strokes : ℤ) → ℤ
most_upright strokes = pos 1080 -ℤ (pos 25 *ℤ int_max (strokes -ℤ pos 4) (pos 0))

-- what the view shows: the blank
abbrev pub blank_area : Flat → Area
blank_area flat = record { x0 = pos 0; x1 = flat.width; y0 = pos 0; y1 = flat.height }

-- the paper of the view, with this room for distances at its left
pub record IsBlankPaper (left : ℤ) (paper : Paper) : Type 0 where
  pub width : paper.width ≡ pos 186
  pub at_left : paper.left ≡ left
  pub at_right : paper.right ≡ pos 6
  pub above : paper.top ≡ pos 4

-- the window around the blank, at the least scale at which it has room
pub record IsBlankWindow (flat : Flat) (strokes number : ℤ) (window : Window) : Type 0 where
  pub left : ℤ
  pub paper : Paper
  pub paper_is : IsBlankPaper left paper
  pub scale : ℤ
  pub least :
      IsLeastScale flat.width flat.height (pos 10 *ℤ ((pos 186 -ℤ left) -ℤ pos 6))
      (most_upright strokes) scale
  pub value : window ≡ window_around paper scale scale 3 (blank_area flat) number

-- The text goes on with a figure of the blank: its shapes in a window, and marks beside them.
pub record IsBlankFigure (flat : Flat) (strokes number : ℤ) (before after : List ℕ) : Type 0 where
  pub window : Window
  pub window_is : IsBlankWindow flat strokes number window
  pub sentence : List ℕ
  pub marks : List ℕ
  pub text :
      after
      ≡ before ++ figure_begin window TITLE.now sentence ++ blank_shapes window flat ++ marks
      ++ end_line window TITLE.now
