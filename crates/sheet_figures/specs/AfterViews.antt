-- The views of a stroke from the side, after it. Lengths are in micrometres, widths in tenths of a
-- millimetre of paper.
use Rattle.std.specs.Prelude.{ℕ, ℤ, pos, neg_ℤ, List, [], ◌∷◌, ◌++◌}
use Rattle.std.specs.Int.{int_div_euclid}
use Rattle.std.specs.Fmt.{signed_decimal}
use Rattle.brake_base.specs.declared.stroke.Back.{Back}
use Rattle.brake_base.specs.declared.stroke.Back.TheVariants.{Parent, Child}
use Rattle.brake_base.specs.declared.stroke.Half.{Half}
use Rattle.brake_base.specs.declared.stroke.Half.TheVariants.{Back as BackHalf, Front as FrontHalf}
use Rattle.brake_base.specs.declared.stroke.Action.{Action}
use Rattle.job_setup.specs.Setup.{JobData}
use Rattle.job_setup.specs.StageOf.{stage_of}
use Rattle.svg_text.specs.Forms.{line_of}
use Rattle.sheet_paper.specs.declared.window.Area.{Area}
use Rattle.sheet_paper.specs.declared.window.Window.{Window}
use Rattle.sheet_paper.specs.FigureLines.{length_text, width_text, end_line}
use Rattle.sheet_views.specs.declared.part_views.DrawnBox.{DrawnBox}
use Rattle.sheet_figures.specs.declared.titles.TheConstants.{AFTER_SENTENCE, AFTER_STROKE, AT_TOOLS}
use Rattle.sheet_figures.specs.declared.forms.TheConstants.{RISEN, TURNED, BEND_ARC}
use Rattle.sheet_figures.specs.declared.parts.Shown.{Shown}
use Rattle.sheet_figures.specs.declared.parts.Shown.TheVariants.{Moving, Resting}
use Rattle.sheet_figures.specs.Parts.{part_lines}
use Rattle.sheet_figures.specs.Tools.{half_of, upper_lines, lower_lines}
use Rattle.sheet_figures.specs.SideViews.{group_end, corner_names, figure_begin, frame_line}

-- the boxes in a half, where this side is at the back: those that move are on the child's side
abbrev pub shown_in : Half → Back → Shown
shown_in BackHalf Child = Moving
shown_in BackHalf Parent = Resting
shown_in FrontHalf Child = Resting
shown_in FrontHalf Parent = Moving

-- What follows has risen by half a die's opening, and is shifted by the thickness along both slopes
-- of the bent sheet, which lowers it by the square root of 2 times the thickness: then the die's
-- edges touch the sheet.
abbrev pub risen_line : Window → (v thickness : ℤ) → List ℕ
risen_line window v thickness =
    line_of RISEN.now
    (length_text window (half_of v) ∷ length_text window (neg_ℤ thickness)
    ∷ length_text window (neg_ℤ thickness) ∷ [])

-- the tools after a stroke: the lower ones, risen, and the upper ones
unfoldable pub tools_after : Window → JobData → (stage : ℕ) → List ℕ
tools_after window job stage =
    risen_line window (stage_of job stage).die.v job.part.thickness
    ++ lower_lines window job stage ++ group_end ++ upper_lines window job stage

-- what follows is turned by so many degrees, from the back upwards
abbrev pub turned_line : ℤ → List ℕ
turned_line degrees = line_of TURNED.now (signed_decimal degrees ∷ [])

-- these boxes of the part, turned
unfoldable pub turned_half : Window → (degrees : ℤ) → Shown → List DrawnBox → List ℕ
turned_half window degrees shown boxes =
    turned_line degrees ++ part_lines window shown boxes

-- the sheet around the bend line: a quarter of a disc, of which the thickness is the radius
abbrev pub bend_arc_line : Window → (thickness : ℤ) → List ℕ
bend_arc_line window thickness =
    line_of BEND_ARC.now
    (width_text window (pos 3) ∷ length_text window (neg_ℤ thickness)
    ∷ length_text window thickness ∷ length_text window thickness
    ∷ length_text window (neg_ℤ thickness) ∷ [])

-- the shapes after a stroke: the tools, the front half turned up by 45 degrees, and the back half,
-- with the sheet around the bend line
unfoldable pub after_shapes : Window → JobData → Action → List DrawnBox → List ℕ
after_shapes window job action boxes =
    tools_after window job action.stage
    ++ turned_half window (neg_ℤ (pos 45)) (shown_in FrontHalf action.back) boxes ++ group_end
    ++ turned_half window (pos 45) (shown_in BackHalf action.back) boxes
    ++ bend_arc_line window job.part.thickness ++ group_end ++ group_end

-- the figure after a stroke, and the one at the tools
unfoldable pub after_lines : Window → JobData → Action → List DrawnBox → List ℕ
after_lines window job action boxes =
    figure_begin window AFTER_STROKE.now AFTER_SENTENCE.now
    ++ after_shapes window job action boxes ++ frame_line window ++ corner_names window
    ++ end_line window AFTER_STROKE.now

unfoldable pub near_lines : Window → JobData → Action → List DrawnBox → List ℕ
near_lines window job action boxes =
    figure_begin window AT_TOOLS.now AFTER_SENTENCE.now
    ++ after_shapes window job action boxes ++ frame_line window
    ++ end_line window AT_TOOLS.now

-- the point in the middle of a view at the tools
abbrev pub tools_point : (v : ℤ) → Area
tools_point v =
    let at = int_div_euclid v (pos 4) in record { x0 = pos 0; x1 = pos 0; y0 = at; y1 = at }
