-- What the page of a job without a plan says.
use Rattle.std.specs.Prelude.{◌≡◌, ℕ, ◌*◌, ◌==◌, nat_le, ℤ, pos, ◌+ℤ◌, ◌≤ℤ◌, List, [], ◌∷◌, ◌++◌, codes, take}
use Rattle.std.specs.Prelude.{length, if◌then◌else◌}
use Rattle.std.specs.Fmt.{signed_decimal}
use Rattle.brake_base.specs.declared.mask.Mask.{Mask}
use Rattle.brake_base.specs.Masks.{bends_of}
use Rattle.job_setup.specs.Setup.{JobData}
use Rattle.plan_lines.specs.declared.note.Note.{Note}
use Rattle.svg_text.specs.Escapes.{escaped}
use Rattle.svg_text.specs.Forms.{line_of}
use Rattle.sheet_words.specs.Lists.{plural}
use Rattle.sheet_page.specs.declared.dead_end.TheConstants.{NOTHING_FOLDED}
use Rattle.sheet_page.specs.declared.forms.TheConstants.{CAPTION, DIV_END, H2, H3, PARAGRAPH}
use Rattle.sheet_page.specs.declared.forms.TheConstants.{REFUSAL_HEAD, ROW, SECTION, SECTION_END}
use Rattle.sheet_page.specs.declared.forms.TheConstants.{FLOW, NEW_PAGE, TABLE, TABLE_END}
use Rattle.sheet_page.specs.declared.no_plan.TheConstants.{AFTER_WHICH, AS_FAR, CAN_BE_FOLDED}
use Rattle.sheet_page.specs.declared.no_plan.TheConstants.{FIRST_STROKE, FROM_FLAT, MEANING}
use Rattle.sheet_page.specs.declared.no_plan.TheConstants.{NOT_POSSIBLE, OF_THE_PART}
use Rattle.sheet_page.specs.declared.no_plan.TheConstants.{REFUSED_AT_ONCE, THEM_SHOWN}
use Rattle.sheet_page.specs.Counts.{counts_text}
use Rattle.sheet_page.specs.Kept.{StateData, dead_ends, flat_mask, flat_notes, furthest}
use Rattle.sheet_page.specs.Kept.{most_folded, refusal_count}
use Rattle.sheet_page.specs.Left.{strokes_left}
use Rattle.sheet_page.specs.Lists.{label_words}
use Rattle.sheet_page.specs.Pictured.{AreLast}
use Rattle.sheet_page.specs.Refused.{refusal_rows, left_rows}

-- the verdict, and what it means
unfoldable pub verdict_text : List ℕ
verdict_text =
    line_of SECTION.now (NEW_PAGE.now ∷ []) ++ line_of H2.now (escaped NOT_POSSIBLE.now ∷ [])
    ++ line_of PARAGRAPH.now (escaped MEANING.now ∷ []) ++ line_of SECTION_END.now []

-- how many strokes are refused at once from the flat blank, and how many are left
unfoldable pub first_caption : (refused left : ℕ) → List ℕ
first_caption refused left =
    FROM_FLAT.now ++ plural refused (codes "stroke") ++ REFUSED_AT_ONCE.now
    ++ signed_decimal (pos left) ++ AFTER_WHICH.now

-- the table of what becomes of the strokes of a state with these notes, and the section of the flat
-- blank
unfoldable pub first_table : JobData → Mask → List Note → List ℕ
first_table job mask notes =
    line_of TABLE.now []
    ++ line_of CAPTION.now (escaped (first_caption (length notes) (strokes_left job mask notes)) ∷ [])
    ++ line_of REFUSAL_HEAD.now [] ++ refusal_rows job mask notes ++ left_rows job mask notes
    ++ line_of TABLE_END.now []

unfoldable pub first_text : JobData → List Note → List ℕ
first_text job notes =
    line_of SECTION.now (FLOW.now ∷ []) ++ line_of H2.now (escaped FIRST_STROKE.now ∷ [])
    ++ first_table job flat_mask notes ++ line_of SECTION_END.now []

-- how many of some states are shown, where not all are
unfoldable pub shown_words : (states shown : ℕ) → List ℕ
shown_words states shown =
    if nat_le states shown then []
    else codes "; " ++ signed_decimal (pos shown) ++ THEM_SHOWN.now

-- how many bends can be folded, in how many states, and how many of these are shown
unfoldable pub far_words : (most states shown : ℕ) → List ℕ
far_words most states shown =
    codes "At most " ++ plural most (codes "bend") ++ CAN_BE_FOLDED.now
    ++ plural states (codes "state") ++ OF_THE_PART.now ++ shown_words states shown ++ codes "."

-- how far it goes, where there is a state at which every stroke is refused
unfoldable pub far_text : (most states shown : ℕ) → List ℕ
far_text most states shown =
    if states == 0 then []
    else line_of SECTION.now ([] ∷ []) ++ line_of H2.now (escaped AS_FAR.now ∷ [])
    ++ line_of PARAGRAPH.now (escaped (far_words most states shown) ∷ []) ++ line_of SECTION_END.now []

-- the bends that are folded at a state
unfoldable pub folded_words : JobData → Mask → List ℕ
folded_words job mask =
    if mask.0 == 0 then NOTHING_FOLDED.now
    else codes "Folded: " ++ label_words job 0 (length (bends_of mask)) (bends_of mask)

-- what a state at which every stroke is refused says: its folded bends, and the table of its refusals
unfoldable pub dead_end_text : JobData → Mask → List Note → List ℕ
dead_end_text job mask notes =
    line_of SECTION.now (FLOW.now ∷ []) ++ line_of H3.now (escaped (folded_words job mask) ∷ [])
    ++ line_of TABLE.now [] ++ line_of REFUSAL_HEAD.now [] ++ refusal_rows job mask notes
    ++ line_of TABLE_END.now []

-- The text goes on with a state at which every stroke is refused: what it says, and so many pictures
-- in a row, numbered from `figure`.
pub record IsDeadEnd (job : JobData) (mask : Mask) (notes : List Note) (figure count : ℤ)
    (before after : List ℕ) : Type 0 where
  pub pictured : List ℕ
  pub pictures :
      AreLast job mask [] notes figure (pos 0) count
      (before ++ dead_end_text job mask notes ++ line_of ROW.now []) pictured
  pub text : after ≡ pictured ++ line_of DIV_END.now [] ++ line_of SECTION_END.now []

-- the text goes on with such states, their pictures numbered on from `figure`
abbrev pub AreDeadEnds : JobData → List StateData → (figure : ℤ) → (before after : List ℕ) → Type 0
AreDeadEnds job [] figure before after = after ≡ before
AreDeadEnds job (state ∷ states) figure before after =
    (count : ℤ) × (behind : List ℕ)
    × IsDeadEnd job state.mask state.notes figure count before behind
    × AreDeadEnds job states (figure +ℤ count) behind after

-- what is told before the states at which every stroke is refused
abbrev pub refusals_begin : JobData → List StateData → List ℕ
refusals_begin job states =
    first_text job (flat_notes states)
    ++ far_text (most_folded (dead_ends job states)) (length (furthest (dead_ends job states)))
    (length (take 4 (furthest (dead_ends job states))))

-- The text goes on with the refusals of these states: those of the first stroke, how far it goes, at
-- most four of the states at which every stroke is refused and most bends are folded, their pictures
-- numbered from `figure`, and the counts.
pub record HasRefusals (job : JobData) (states : List StateData) (figure : ℤ)
    (before after : List ℕ) : Type 0 where
  pub told : List ℕ
  pub shown :
      AreDeadEnds job (take 4 (furthest (dead_ends job states))) figure
      (before ++ refusals_begin job states) told
  pub text : after ≡ told ++ counts_text job (refusal_count job states) (length states)

-- how many pictures a state can have
pub record IsPictureCount (count : ℤ) : Type 0 where
  pub low : pos 0 ≤ℤ count
  pub high : count ≤ℤ pos 3

-- the number that the first picture of the last states can have, where so many are left to be shown:
-- at most 4 states are shown, each with at most 3 pictures
pub record IsPictureAt (left : ℕ) (figure : ℤ) : Type 0 where
  pub low : pos 0 ≤ℤ figure
  pub high : (figure +ℤ pos (3 * left)) ≤ℤ pos 22
