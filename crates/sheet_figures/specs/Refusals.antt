-- The pictures of a refused stroke. Lengths are in micrometres.
use Rattle.std.specs.Prelude.{◌≡◌, ◌⊎◌, ℕ, ℤ, pos, ◌+ℤ◌, ◌*ℤ◌, int_lt, Bool, true, false, ◌&&◌, Option, Some, None, List, [], ◌++◌, codes}
use Rattle.std.specs.Fmt.{signed_decimal}
use Rattle.brake_base.specs.declared.mask.Mask.{Mask}
use Rattle.brake_base.specs.declared.plane.Rect.{Rect}
use Rattle.brake_base.specs.declared.stroke.Action.{Action}
use Rattle.brake_base.specs.declared.reason.Reason.{Reason}
use Rattle.brake_base.specs.declared.stroke.Back.{Back}
use Rattle.brake_base.specs.declared.stroke.Back.TheVariants.{Parent, Child}
use Rattle.brake_base.specs.Masks.{bends_of}
use Rattle.sector_geom.specs.declared.sector.Sector.{Sector}
use Rattle.job_setup.specs.Setup.{JobData}
use Rattle.job_setup.specs.StageOf.{stage_of}
use Rattle.sheet_paper.specs.declared.window.Paper.{Paper}
use Rattle.sheet_paper.specs.declared.window.Window.{Window}
use Rattle.sheet_paper.specs.FigureLines.{end_line}
use Rattle.sheet_paper.specs.Windows.{framed}
use Rattle.sheet_views.specs.declared.part_views.DrawnBox.{DrawnBox}
use Rattle.sheet_views.specs.declared.swept.Swept.{Swept}
use Rattle.sheet_views.specs.Drawing.{DrawingData}
use Rattle.sheet_views.specs.SideArea.{shown_points, IsLeastRect}
use Rattle.sheet_words.specs.Reasons.{reason_words}
use Rattle.sheet_figures.specs.declared.parts.Shown.TheVariants.{Whole}
use Rattle.sheet_figures.specs.declared.refusal.Refused.{Refused}
use Rattle.sheet_figures.specs.declared.refusal.RefusalWindows.{RefusalWindows}
use Rattle.sheet_figures.specs.declared.sweep.Radii.{Radii}
use Rattle.sheet_figures.specs.declared.titles.TheConstants.{PARENT_AT_BACK, FLANGE_AT_BACK, BY_THE_TOOLS}
use Rattle.sheet_figures.specs.BendWords.{bend_words}
use Rattle.sheet_figures.specs.Parts.{across_bed, part_lines}
use Rattle.sheet_figures.specs.SideViews.{tools_before, figure_begin, frame_line}
use Rattle.sheet_figures.specs.Strokes.{IsWindowFor, IsToolsWindow}
use Rattle.sheet_figures.specs.SweptShapes.{AreRadii, swept_lines}

-- the title of a picture: the bends of the stroke, the action, and where the picture is one at the
-- tools
unfoldable pub back_words : Back → List ℕ
back_words Parent = PARENT_AT_BACK.now
back_words Child = FLANGE_AT_BACK.now

unfoldable pub near_words : Bool → List ℕ
near_words true = BY_THE_TOOLS.now
near_words false = []

unfoldable pub title_words : (bends : Mask) → Action → (is_near : Bool) → List ℕ
title_words bends action is_near =
    bend_words (bends_of bends) ++ back_words action.back ++ signed_decimal (pos action.stage)
    ++ near_words is_near

-- its caption
unfoldable pub caption_words : (title words : List ℕ) → List ℕ
caption_words title words = title ++ codes ": " ++ words

-- the tools and the whole part before the stroke
unfoldable pub before_stroke : Window → JobData → (stage : ℕ) → List DrawnBox → List ℕ
before_stroke window job stage boxes =
    tools_before window job stage ++ part_lines window Whole boxes

-- The text goes on with a picture of a refused stroke: the tools and the part before it, what would
-- be struck and what the box of the reason sweeps.
pub record IsPicture (window : Window) (job : JobData) (drawing : DrawingData)
    (refused : Refused) (is_near : Bool) (before after : List ℕ) : Type 0 where
  pub title : List ℕ
  pub title_is : title ≡ title_words drawing.pose.group refused.action is_near
  pub words : List ℕ
  pub words_are : words ≡ reason_words job refused.action drawing.pose refused.reason
  pub radii : Radii
  pub radii_are : AreRadii refused.swept.cover radii
  pub text :
      after
      ≡ before ++ figure_begin window title words
      ++ before_stroke window job refused.action.stage drawing.before
      ++ swept_lines window refused.swept radii ++ frame_line window
      ++ end_line window (caption_words title words)

-- the paper of these pictures
abbrev pub refusal_paper : Paper
refusal_paper = framed (pos 91) (pos 52) (pos 1)

-- A second picture shows more: the die's opening shows as less than 2.5 mm in the first, and in the
-- second the cover comes within 20 mm of the bend line.
abbrev pub shows_more : (v scale near_scale : ℤ) → Sector → Bool
shows_more v scale near_scale cover =
    int_lt v (pos 25 *ℤ scale)
    && int_lt cover.near2 ((pos 200 *ℤ near_scale) *ℤ (pos 200 *ℤ near_scale))

-- The windows of the pictures: one around what the side views of the stroke show without fingers,
-- and one at the tools.
pub record AreRefusalWindows (job : JobData) (drawing : DrawingData) (refused : Refused)
    (number : ℤ) (windows : RefusalWindows) : Type 0 where
  pub shown : Rect
  pub least :
      IsLeastRect (shown_points job refused.action.stage drawing.pose.boxes None) shown
  pub around : IsWindowFor refusal_paper (across_bed shown) number windows.around
  pub near :
      IsToolsWindow refusal_paper (pos 80) job refused.action.stage (number +ℤ pos 1)
      windows.near
  pub more :
      windows.shows_more
      ≡ shows_more (stage_of job refused.action.stage).die.v windows.around.scale
      windows.near.scale refused.swept.cover

-- The text goes on with so many pictures: one, and where that shows more a second at the tools.
pub record ArePictures (job : JobData) (drawing : DrawingData) (refused : Refused)
    (number count : ℤ) (before after : List ℕ) : Type 0 where
  pub windows : RefusalWindows
  pub windows_are : AreRefusalWindows job drawing refused number windows
  pub first : List ℕ
  pub picture : IsPicture windows.around job drawing refused false before first
  pub rest :
      ((windows.shows_more ≡ false) × (count ≡ pos 1) × (after ≡ first))
      ⊎ ((windows.shows_more ≡ true) × (count ≡ pos 2)
      × IsPicture windows.near job drawing refused true first after)

-- The text goes on with the pictures of a refused stroke: none where the reason's box sweeps
-- nothing.
abbrev pub IsRefusal : Option Swept → JobData → DrawingData → Action → Reason
    → (number count : ℤ) → (before after : List ℕ) → Type 0
IsRefusal None job drawing action reason number count before after =
    (count ≡ pos 0) × (after ≡ before)
IsRefusal (Some swept) job drawing action reason number count before after =
    ArePictures job drawing (record { action = action; reason = reason; swept = swept }) number
    count before after
