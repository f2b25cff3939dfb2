-- The side views of a stroke, put together.
use Rattle.std.proofs.Common.{◌≡◌, ℕ, ℤ, pos, ◌+ℤ◌, Bool, List, ◌++◌, subst}
use Rattle.brake_base.specs.declared.stroke.Action.{Action}
use Rattle.job_setup.specs.Setup.{JobData}
use Rattle.job_setup.specs.StageOf.{stage_of}
use Rattle.sheet_paper.specs.declared.window.Area.{Area}
use Rattle.sheet_paper.specs.declared.window.Window.{Window}
use Rattle.sheet_views.specs.declared.fingers.Fingers.{Fingers}
use Rattle.sheet_views.specs.Drawing.{DrawingData}
use Rattle.sheet_figures.specs.SideViews.{side_paper}
use Rattle.sheet_figures.specs.Strokes.{IsWindowFor, IsSidesArea, IsOpeningShown, side_width, both_lines, IsRest, AreSideViews}

-- all views, by their parts
pub views_are : (job : JobData) (action : Action) (drawing : DrawingData) (fingers : Fingers) (number count width : ℤ) (area : Area) (shows : Bool) (first second : Window) (before both after : List ℕ)
    → IsSidesArea job action.stage drawing fingers area → IsOpeningShown (stage_of job action.stage).die.v area shows → width ≡ side_width shows
    → IsWindowFor (side_paper width) area number first → IsWindowFor (side_paper width) area (number +ℤ pos 1) second
    → both ≡ before ++ both_lines first second job action drawing.before fingers → IsRest job action drawing.before shows (number +ℤ pos 2) count both after
    → AreSideViews job action drawing fingers number count before after
views_are job action drawing fingers number count width area shows first second before both after shown opening wide one two text rest = record {
  area = area;
  area_is = shown;
  shows = shows;
  shows_is = opening;
  first = first;
  first_is = subst (λ (w : ℤ). IsWindowFor (side_paper w) area number first) wide one;
  second = second;
  second_is = subst (λ (w : ℤ). IsWindowFor (side_paper w) area (number +ℤ pos 1) second) wide two;
  both = both;
  text = text;
  rest = rest;
}
