-- The blocks of the strokes.
use Rattle.std.specs.Prelude.{◌≡◌, ℕ, ◌+◌, ◌*◌, ◌==◌, ℤ, pos, ◌+ℤ◌, ◌≤ℤ◌, List, [], ◌∷◌, ◌++◌}
use Rattle.std.specs.Prelude.{if◌then◌else◌}
use Rattle.brake_base.specs.declared.stroke.Key.{Key}
use Rattle.brake_base.specs.declared.stroke.Step.{Step}
use Rattle.job_setup.specs.Setup.{JobData}
use Rattle.handling_cost.specs.StepCost.{key_after}
use Rattle.svg_text.specs.Forms.{line_of}
use Rattle.sheet_views.specs.Hazards.{warnings}
use Rattle.sheet_figures.specs.Bodies.{AreBodies}
use Rattle.sheet_figures.specs.Strokes.{AreSideViews, IsAboveView}
use Rattle.sheet_page.specs.declared.forms.TheConstants.{DIV_END, FACTS, ROW, SECTION, SECTION_END}
use Rattle.sheet_page.specs.declared.stroke_block.TheConstants.{FIRST_STROKE, LATER_STROKE}
use Rattle.sheet_page.specs.Facts.{facts_text}
use Rattle.sheet_page.specs.Headings.{heading_line}
use Rattle.sheet_page.specs.Strokes.{StrokeData, stroke_of}
use Rattle.sheet_page.specs.Warnings.{warning_line}

-- the attribute of the block of a stroke: the first begins a page
unfoldable pub stroke_class : (number : ℕ) → List ℕ
stroke_class number = if number == 1 then FIRST_STROKE.now else LATER_STROKE.now

-- what a block says of its stroke, of so many
unfoldable pub block_words : JobData → (count : ℕ) → StrokeData → List ℕ
block_words job count stroke =
    line_of SECTION.now (stroke_class stroke.number ∷ []) ++ heading_line job count stroke
    ++ line_of FACTS.now [] ++ facts_text job stroke
    ++ warning_line (warnings job stroke.fingers)

-- the text goes on with the three others beside the side views: the view from above, numbered
-- `figure`, and the part before the stroke and after it
abbrev pub AreOthers :
    JobData → StrokeData → (figure : ℤ) → (before after : List ℕ) → Type 0
AreOthers job stroke figure before after =
    (above : List ℕ)
    × IsAboveView job stroke.step.action.stage stroke.drawing stroke.fingers figure before above
    × AreBodies stroke.drawing (figure +ℤ pos 1) above after

-- The text goes on with the pictures of a stroke in two rows: its side views, so many, numbered
-- from `figure`; then the three others.
pub record ArePictures (job : JobData) (stroke : StrokeData) (figure views : ℤ)
    (before after : List ℕ) : Type 0 where
  pub sides : List ℕ
  pub side_views :
      AreSideViews job stroke.step.action stroke.drawing stroke.fingers figure views
      (before ++ line_of ROW.now []) sides
  pub bodies : List ℕ
  pub others :
      AreOthers job stroke (figure +ℤ views)
      (sides ++ line_of DIV_END.now [] ++ line_of ROW.now []) bodies
  pub text : after ≡ bodies ++ line_of DIV_END.now []

-- The text goes on with the block of a stroke, of so many: what it says, and its pictures.
pub record IsBlock (job : JobData) (count : ℕ) (stroke : StrokeData) (figure views : ℤ)
    (before after : List ℕ) : Type 0 where
  pub pictured : List ℕ
  pub pictures :
      ArePictures job stroke figure views (before ++ block_words job count stroke) pictured
  pub text : after ≡ pictured ++ line_of SECTION_END.now []

-- The text goes on with blocks, of so many strokes: one for each step, in order, numbered from
-- `number`, their figures from `figure`, each of the stroke of its step at the key to which the
-- steps before it lead.
abbrev pub AreBlocks :
    JobData → (count number : ℕ) → (figure : ℤ) → Key → List Step → (before after : List ℕ)
    → Type 0
AreBlocks job count number figure key [] before after = after ≡ before
AreBlocks job count number figure key (step ∷ steps) before after =
    (views : ℤ) × (behind : List ℕ)
    × IsBlock job count (stroke_of job number key step) figure views before behind
    × AreBlocks job count (number + 1) ((figure +ℤ views) +ℤ pos 3)
    (key_after job key step.action) steps behind after

-- the number that the first figure of the stroke of a number can have: before the strokes are at
-- most 9 figures, and a stroke has at most 6
pub record IsFigureAt (number : ℕ) (figure : ℤ) : Type 0 where
  pub low : pos 0 ≤ℤ figure
  pub high : figure ≤ℤ pos (10 + 6 * number)
