-- The section of the blank. Lengths are in micrometres.
use Rattle.std.specs.Prelude.{◌≡◌, ℤ, pos, ℕ, List, [], ◌∷◌, ◌++◌, codes, IsOkAnd}
use Rattle.unfolder.specs.Blank.{blank_of_part}
use Rattle.job_setup.specs.Setup.{JobData}
use Rattle.svg_text.specs.Escapes.{escaped}
use Rattle.svg_text.specs.Forms.{line_of}
use Rattle.sheet_words.specs.Lists.{mm}
use Rattle.sheet_figures.specs.declared.blank.Flat.{Flat}
use Rattle.sheet_figures.specs.Blanks.{IsBlankFigure}
use Rattle.sheet_figures.specs.MovedBlanks.{IsMovedBlank}
use Rattle.sheet_page.specs.declared.blank_part.TheConstants.{TIMES}
use Rattle.sheet_page.specs.declared.forms.TheConstants.{H2_WITH, LEGEND, SECTION, SECTION_END}

-- the blank of the job's part, moved so that its extent begins at (0, 0)
abbrev pub IsFlatOf : JobData → Flat → Type 0
IsFlatOf job flat = IsOkAnd (blank_of_part job.part job.q) (λ blank. IsMovedBlank blank flat)

-- how large a blank is, and the heading that says so
unfoldable pub size_words : Flat → List ℕ
size_words flat = mm flat.width ++ TIMES.now ++ mm flat.height ++ codes " mm"

abbrev pub blank_heading : Flat → List ℕ
blank_heading flat =
    line_of H2_WITH.now (escaped (codes "Blank") ∷ escaped (size_words flat) ∷ [])

-- The text goes on with the section of a blank: its heading, figure 1, which leaves room for a
-- table of so many strokes, and the legend.
pub record HasBlank (flat : Flat) (strokes : ℤ) (before after : List ℕ) : Type 0 where
  pub drawn : List ℕ
  pub figure :
      IsBlankFigure flat strokes (pos 1)
      (before ++ line_of SECTION.now ([] ∷ []) ++ blank_heading flat) drawn
  pub text : after ≡ drawn ++ line_of LEGEND.now [] ++ line_of SECTION_END.now []
