-- The figures of a stroke, each in its window. Lengths are in micrometres.
use Rattle.std.specs.Prelude.{◌≡◌, ◌⊎◌, ℕ, ℤ, pos, ◌+ℤ◌, ◌-ℤ◌, ◌*ℤ◌, int_le, Bool, true, false, Some, List, ◌++◌}
use Rattle.brake_base.specs.declared.plane.Rect.{Rect}
use Rattle.brake_base.specs.declared.stroke.Action.{Action}
use Rattle.job_setup.specs.Setup.{JobData}
use Rattle.job_setup.specs.StageOf.{stage_of}
use Rattle.sheet_paper.specs.declared.window.Area.{Area}
use Rattle.sheet_paper.specs.declared.window.Paper.{Paper}
use Rattle.sheet_paper.specs.declared.window.Window.{Window}
use Rattle.sheet_paper.specs.FigureLines.{end_line}
use Rattle.sheet_paper.specs.Scales.{IsLeastScale}
use Rattle.sheet_paper.specs.Windows.{across, upright, window_around}
use Rattle.sheet_views.specs.declared.fingers.Fingers.{Fingers}
use Rattle.sheet_views.specs.declared.part_views.DrawnBox.{DrawnBox}
use Rattle.sheet_views.specs.Drawing.{DrawingData}
use Rattle.sheet_views.specs.SideArea.{shown_points, IsLeastRect}
use Rattle.sheet_figures.specs.declared.titles.TheConstants.{FROM_ABOVE}
use Rattle.sheet_figures.specs.Parts.{across_bed}
use Rattle.sheet_figures.specs.SideViews.{side_paper, before_lines}
use Rattle.sheet_figures.specs.AfterViews.{after_lines, near_lines, tools_point}
use Rattle.sheet_figures.specs.Above.{above_lines}
use Rattle.sheet_figures.specs.FaceCorner.{corner_lines}
use Rattle.sheet_figures.specs.ShownAreas.{above_area}

-- the window around an area, at the least scale at which the area has room on the paper
pub record IsWindowFor (paper : Paper) (area : Area) (number : ℤ) (window : Window) : Type 0 where
  pub scale : ℤ
  pub least :
      IsLeastScale (area.x1 -ℤ area.x0) (area.y1 -ℤ area.y0) (across paper) (upright paper) scale
  pub value : window ≡ window_around paper scale scale 3 area number

-- the window of a view at the tools: around the middle of the die's opening, at the least scale at
-- which that has room in so many tenths of a millimetre
pub record IsToolsWindow (paper : Paper) (room : ℤ) (job : JobData) (stage : ℕ) (number : ℤ)
    (window : Window) : Type 0 where
  pub scale : ℤ
  pub least : IsLeastScale (stage_of job stage).die.v (pos 0) room (pos 1) scale
  pub value :
      window
      ≡ window_around paper scale scale 3 (tools_point (stage_of job stage).die.v) number

-- the text goes on with the view at the tools
pub record IsAtTools (job : JobData) (action : Action) (boxes : List DrawnBox) (number : ℤ)
    (before after : List ℕ) : Type 0 where
  pub window : Window
  pub window_is : IsToolsWindow (side_paper (pos 48)) (pos 110) job action.stage number window
  pub text : after ≡ before ++ near_lines window job action boxes

-- what the side views show: the least area that holds all that they have to show
pub record IsSidesArea (job : JobData) (stage : ℕ) (drawing : DrawingData) (fingers : Fingers)
    (area : Area) : Type 0 where
  pub shown : Rect
  pub least : IsLeastRect (shown_points job stage drawing.pose.boxes (Some fingers)) shown
  pub value : area ≡ across_bed shown

-- Whether the opening of a die shows as 2.5 mm where an area has room in 89 by 41 mm of paper.
pub record IsOpeningShown (v : ℤ) (area : Area) (shows : Bool) : Type 0 where
  pub scale : ℤ
  pub least :
      IsLeastScale (area.x1 -ℤ area.x0) (area.y1 -ℤ area.y0) (pos 890) (pos 410) scale
  pub value : shows ≡ int_le (pos 25 *ℤ scale) v

-- the width of the paper of a side view: where the opening doesn't show, a third view stands beside
abbrev pub side_width : Bool → ℤ
side_width true = pos 91
side_width false = pos 67

-- the views before and after a stroke
unfoldable pub both_lines : (first second : Window) → JobData → Action → List DrawnBox → Fingers
    → List ℕ
both_lines first second job action boxes fingers =
    before_lines first job action.stage boxes fingers ++ after_lines second job action boxes

-- what follows them: nothing where the opening shows, and the view at the tools where it doesn't
abbrev pub IsRest : JobData → Action → List DrawnBox → (shows : Bool) → (number count : ℤ)
    → (before after : List ℕ) → Type 0
IsRest job action boxes shows number count before after =
    ((shows ≡ true) × (count ≡ pos 2) × (after ≡ before))
    ⊎ ((shows ≡ false) × (count ≡ pos 3) × IsAtTools job action boxes number before after)

-- The text goes on with the side views of a stroke, so many: before it and after it, both around
-- what they have to show, and at the tools.
pub record AreSideViews (job : JobData) (action : Action) (drawing : DrawingData)
    (fingers : Fingers) (number count : ℤ) (before after : List ℕ) : Type 0 where
  pub area : Area
  pub area_is : IsSidesArea job action.stage drawing fingers area
  pub shows : Bool
  pub shows_is : IsOpeningShown (stage_of job action.stage).die.v area shows
  pub first : Window
  pub first_is : IsWindowFor (side_paper (side_width shows)) area number first
  pub second : Window
  pub second_is : IsWindowFor (side_paper (side_width shows)) area (number +ℤ pos 1) second
  pub both : List ℕ
  pub text : both ≡ before ++ both_lines first second job action drawing.before fingers
  pub rest : IsRest job action drawing.before shows (number +ℤ pos 2) count both after

-- the paper of the view from above
abbrev pub above_paper : Paper
above_paper = record {
  width = pos 62;
  height = pos 42;
  left = pos 1;
  right = pos 1;
  top = pos 7;
  bottom = pos 7;
}

-- The text goes on with the view from above in the window around all that it shows.
pub record IsAboveView (job : JobData) (stage : ℕ) (drawing : DrawingData) (fingers : Fingers)
    (number : ℤ) (before after : List ℕ) : Type 0 where
  pub window : Window
  pub window_is :
      IsWindowFor above_paper (above_area job stage drawing.before fingers) number window
  pub text :
      after
      ≡ before ++ above_lines window job drawing.before drawing.line fingers
      ++ corner_lines window job drawing ++ end_line window FROM_ABOVE.now
