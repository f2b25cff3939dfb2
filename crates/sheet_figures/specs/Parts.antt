-- The boxes of the part in a picture. Lengths are in micrometres, widths in tenths of a millimetre of
-- paper.
use Rattle.std.specs.Prelude.{ℕ, ℤ, pos, Bool, true, not, ◌&&◌, List, [], ◌∷◌, ◌++◌, codes, flat_map}
use Rattle.std.specs.Prelude.{if◌then◌else◌}
use Rattle.std.specs.Fmt.{signed_decimal}
use Rattle.brake_base.specs.declared.plane.Rect.{Rect}
use Rattle.svg_text.specs.Forms.{line_of}
use Rattle.sheet_paper.specs.declared.window.Area.{Area}
use Rattle.sheet_paper.specs.declared.window.Window.{Window}
use Rattle.sheet_paper.specs.FigureLines.{length_text, width_text}
use Rattle.sheet_views.specs.declared.part_views.DrawnBox.{DrawnBox}
use Rattle.job_setup.specs.Reasons.{across}
use Rattle.sheet_figures.specs.declared.forms.TheConstants.{PART_BOX, PART_BOX_BESIDE}
use Rattle.sheet_figures.specs.declared.parts.Shown.{Shown}
use Rattle.sheet_figures.specs.declared.parts.Shown.TheVariants.{Whole, Moving, Resting}

-- the class of a box, by whether it moves
unfoldable pub box_class : Bool → List ℕ
box_class moves = if moves then codes "move" else codes "rest"

-- a box of the part: its class, its rectangle and its number
abbrev pub part_box_line : Window → (width : ℤ) → DrawnBox → Area → List ℕ
part_box_line window width drawn area =
    line_of PART_BOX.now
    (box_class drawn.moves ∷ width_text window width ∷ length_text window area.x0
    ∷ length_text window area.y0 ∷ length_text window area.x1 ∷ length_text window area.y1
    ∷ length_text window area.x0 ∷ signed_decimal (pos drawn.id) ∷ [])

-- a rectangle across the bed as an area of the side views
abbrev pub across_bed : Rect → Area
across_bed r = record { x0 = r.y0; x1 = r.y1; y0 = r.z0; y1 = r.z1 }

-- a box that passes beside the tools: its rectangle across the bed, dashed, and its number
abbrev pub beside_line : Window → DrawnBox → List ℕ
beside_line window drawn =
    let area = across_bed (across drawn.body) in
    line_of PART_BOX_BESIDE.now
    (width_text window (pos 2) ∷ width_text window (pos 12) ∷ width_text window (pos 8)
    ∷ length_text window area.x0 ∷ length_text window area.y0 ∷ length_text window area.x1
    ∷ length_text window area.y1 ∷ length_text window area.x0
    ∷ signed_decimal (pos drawn.id) ∷ [])

-- the box is shown: all are, or those that move, or those that rest
abbrev pub shows : Shown → DrawnBox → Bool
shows Whole drawn = true
shows Moving drawn = drawn.moves
shows Resting drawn = not drawn.moves

-- a box where it is shown and passes beside the tools, and where it is in line with them
unfoldable pub beside_text : Window → Shown → DrawnBox → List ℕ
beside_text window shown drawn =
    if shows shown drawn && not drawn.in_line then beside_line window drawn else []

unfoldable pub in_line_text : Window → Shown → DrawnBox → List ℕ
in_line_text window shown drawn =
    if shows shown drawn && drawn.in_line
    then part_box_line window (pos 3) drawn (across_bed (across drawn.body))
    else []

-- the part from the side: the boxes that pass beside the tools, then those in line with them, each
-- in order of number
unfoldable pub part_lines : Window → Shown → List DrawnBox → List ℕ
part_lines window shown boxes =
    flat_map (beside_text window shown) boxes ++ flat_map (in_line_text window shown) boxes
