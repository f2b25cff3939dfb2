-- The tools of a station, from the side. Lengths are in micrometres, widths in tenths of a millimetre
-- of paper.
use Rattle.std.specs.Prelude.{ℕ, ℤ, pos, neg_ℤ, int_div, List, [], ◌∷◌, ◌++◌, codes, flat_map}
use Rattle.std.specs.Prelude.{if◌then◌else◌}
use Rattle.std.specs.Ordering.{int_eq}
use Rattle.std.specs.Fmt.{signed_decimal}
use Rattle.job_setup.specs.Setup.{JobData}
use Rattle.job_setup.specs.StageOf.{stage_of}
use Rattle.svg_text.specs.Forms.{line_of}
use Rattle.sheet_paper.specs.declared.window.Area.{Area}
use Rattle.sheet_paper.specs.declared.window.Window.{Window}
use Rattle.sheet_paper.specs.FigureLines.{length_text, width_text}
use Rattle.sheet_views.specs.declared.stations.Tool.{Tool}
use Rattle.sheet_views.specs.Stations.{upper_tools, lower_tools}
use Rattle.sheet_figures.specs.declared.forms.TheConstants.{UPPER_BOX, LOWER_BOX, NOSE, VEE}
use Rattle.sheet_figures.specs.Parts.{across_bed}

-- a box by its rectangle and its number
abbrev pub numbered_line : (form : List ℕ) → Window → (index : ℕ) → Area → List ℕ
numbered_line form window index area =
    line_of form
    (width_text window (pos 1) ∷ length_text window area.x0 ∷ length_text window area.y0
    ∷ length_text window area.x1 ∷ length_text window area.y1 ∷ length_text window area.x0
    ∷ signed_decimal (pos index) ∷ [])

-- a box of the tools or the machine from the side, as the files have it
abbrev pub side_tool_line : (form : List ℕ) → Window → Tool → List ℕ
side_tool_line form window tool = numbered_line form window tool.index (across_bed tool.body.rect)

-- The nose of a punch: the quarter disc of this radius, which the form turns by 45 degrees and draws
-- by the square root of 2 larger.
abbrev pub nose_line : Window → (class : List ℕ) → (width nose : ℤ) → List ℕ
nose_line window class width nose =
    line_of NOSE.now
    (class ∷ width_text window width ∷ length_text window nose ∷ length_text window nose
    ∷ length_text window nose ∷ length_text window nose ∷ [])

-- that of a punch which has one
unfoldable pub nose_text : Window → ℤ → List ℕ
nose_text window nose =
    if int_eq nose (pos 0) then [] else nose_line window (codes "tool") (pos 1) nose

-- half of a length, rounded towards 0
abbrev pub half_of : ℤ → ℤ
half_of length = int_div length (pos 2)

-- the opening of a die: from half of it before the bend line to as deep below, to as far behind
abbrev pub vee_line : Window → (v : ℤ) → List ℕ
vee_line window v =
    line_of VEE.now
    (width_text window (pos 1) ∷ length_text window (neg_ℤ (half_of v))
    ∷ length_text window (neg_ℤ (half_of v)) ∷ length_text window (half_of v) ∷ [])

-- what stands above a station: the boxes of the beam and its punch, and the punch's nose
unfoldable pub upper_lines : Window → JobData → (stage : ℕ) → List ℕ
upper_lines window job stage =
    flat_map (side_tool_line UPPER_BOX.now window) (upper_tools job stage)
    ++ nose_text window (stage_of job stage).punch.nose

-- what stands under it: the boxes of the bed and its die, and the die's opening
unfoldable pub lower_lines : Window → JobData → (stage : ℕ) → List ℕ
lower_lines window job stage =
    flat_map (side_tool_line LOWER_BOX.now window) (lower_tools job stage)
    ++ vee_line window (stage_of job stage).die.v
