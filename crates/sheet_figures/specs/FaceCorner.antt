-- The corner of face 0 in the view from above: a triangle that tells which side of the sheet is
-- seen. Lengths are in micrometres, widths in tenths of a millimetre of paper.
use Rattle.std.specs.Prelude.{ℕ, ℤ, pos, neg_ℤ, ◌+ℤ◌, ◌*ℤ◌, List, [], codes}
use Rattle.std.specs.Prelude.{slice_index_or, if◌then◌else◌}
use Rattle.std.specs.Ordering.{int_eq}
use Rattle.brake_base.specs.Vectors.{vector}
use Rattle.brake_base.specs.Turns.{Map, apply, mapped, stay}
use Rattle.unfolder.specs.declared.blank.FlatRect.{FlatRect}
use Rattle.unfolder.specs.Cores.{core}
use Rattle.job_setup.specs.Setup.{JobData}
use Rattle.sheet_paper.specs.declared.window.Window.{Window}
use Rattle.sheet_paper.specs.FigureLines.{triangle_line}
use Rattle.sheet_views.specs.Drawing.{DrawingData}
use Rattle.sheet_figures.specs.declared.face_corner.SideA.{SideA}
use Rattle.sheet_figures.specs.declared.face_corner.SideA.TheVariants.{Up, Down, Upright}

-- how far up a step of 1 out of side A leads
abbrev pub rise : Map → ℤ
rise place = (apply place.turn (vector (pos 0) (pos 0) (pos 1))).z

-- where side A looks, by that
unfoldable pub side_of : (rise : ℤ) → SideA
side_of rise =
    if int_eq rise (pos 1) then Up
    else if int_eq rise (neg_ℤ (pos 1)) then Down
    else Upright

-- The point of face 0 that lies so far to the right of its core's least corner and above it, on
-- paper, whose second coordinate counts downwards.
abbrev pub corner_point : Map → FlatRect → (right up : ℤ) → ℤ × ℤ
corner_point place core right up =
    let point = mapped place (vector (core.x0 +ℤ right) (core.y0 +ℤ up) (pos 0)) in
    (point.x, neg_ℤ point.y)

-- the triangle of the core's least corner and the points 3.4 mm of paper from there along both axes
abbrev pub mark_line : Window → Map → FlatRect → (class : List ℕ) → List ℕ
mark_line window place core class =
    triangle_line window class (pos 2) (corner_point place core (pos 0) (pos 0))
    (corner_point place core (pos 34 *ℤ window.unit) (pos 0))
    (corner_point place core (pos 0) (pos 34 *ℤ window.unit))

-- black where side A is seen, white where side B is, and none where face 0 stands upright
unfoldable pub side_lines : SideA → Window → Map → FlatRect → List ℕ
side_lines Up window place core = mark_line window place core (codes "side-a")
side_lines Down window place core = mark_line window place core (codes "side-b")
side_lines Upright window place core = []

-- the mark of a drawing
abbrev pub corner_lines : Window → JobData → DrawingData → List ℕ
corner_lines window job drawing =
    let place = slice_index_or drawing.pose.places 0 stay in
    side_lines (side_of (rise place)) window place (core job.part.faces job.q 0)
