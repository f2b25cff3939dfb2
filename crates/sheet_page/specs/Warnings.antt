-- What the rules don't test of the stop fingers, in words.
use Rattle.std.specs.Prelude.{ℕ, ◌+◌, pos, List, [], ◌∷◌, ◌++◌, codes, length}
use Rattle.std.specs.Fmt.{signed_decimal}
use Rattle.svg_text.specs.Escapes.{escaped}
use Rattle.svg_text.specs.Forms.{line_of}
use Rattle.sheet_views.specs.declared.hazards.Finger.{Finger}
use Rattle.sheet_views.specs.declared.hazards.Finger.TheVariants.{Left, Right, Both}
use Rattle.sheet_views.specs.declared.hazards.Hazard.{Hazard}
use Rattle.sheet_views.specs.declared.hazards.Hazard.TheVariants.{Bed, Die, Beam, Punch}
use Rattle.sheet_views.specs.declared.hazards.Hazard.TheVariants.{SideFrame, BesideBed}
use Rattle.sheet_views.specs.declared.hazards.Warning.{Warning}
use Rattle.sheet_words.specs.Lists.{separator}
use Rattle.sheet_page.specs.declared.forms.TheConstants.{WARNING}

-- the fingers of a warning
unfoldable pub finger_words : Finger → List ℕ
finger_words Left = codes "the left stop finger would "
finger_words Right = codes "the right stop finger would "
finger_words Both = codes "both stop fingers would "

-- what a finger would do
unfoldable pub hazard_words : Hazard → List ℕ
hazard_words Bed = codes "reach into the bed under the dies"
hazard_words (Die stage) = codes "reach into the die of station " ++ signed_decimal (pos stage)
hazard_words Beam = codes "reach into the beam above the punches"
hazard_words (Punch stage) = codes "reach into the punch of station " ++ signed_decimal (pos stage)
hazard_words SideFrame = codes "stand in a side frame"
hazard_words BesideBed = codes "stand beside the bed"

-- a warning at a place of a list of so many, and the last warnings of such a list
unfoldable pub listed_warning : (at count : ℕ) → Warning → List ℕ
listed_warning at count warning =
    separator at count ++ finger_words warning.finger ++ hazard_words warning.hazard

abbrev pub warning_words : (at count : ℕ) → (warnings : List Warning) → List ℕ
warning_words at count [] = []
warning_words at count (warning ∷ warnings) =
    listed_warning at count warning ++ warning_words (at + 1) count warnings

-- the line of all warnings; nothing where there is none
unfoldable pub warning_line : List Warning → List ℕ
warning_line [] = []
warning_line (warning ∷ warnings) =
    line_of WARNING.now
    (escaped (warning_words 0 (length (warning ∷ warnings)) (warning ∷ warnings)) ∷ [])
