-- The refused strokes of a state of the part, of which each has a note, and the strokes that are left.
use Rattle.std.specs.Prelude.{◌≡◌, ℕ, ◌==◌, pos, Bool, not, ◌&&◌, List, [], ◌∷◌, ◌++◌}
use Rattle.std.specs.Prelude.{map, bytes_eq, flat_map, if◌then◌else◌}
use Rattle.std.specs.List.{list_any}
use Rattle.std.specs.Fmt.{signed_decimal}
use Rattle.brake_base.specs.declared.mask.Mask.{Mask}
use Rattle.brake_base.specs.declared.stroke.Back.{Back}
use Rattle.brake_base.specs.declared.stroke.Back.TheVariants.{Parent, Child}
use Rattle.brake_base.specs.Masks.{numbers_to}
use Rattle.part_file.specs.Part.{face_at}
use Rattle.job_setup.specs.Setup.{JobData, bend_count, stage_count}
use Rattle.handling_cost.specs.Plan.{pose_before}
use Rattle.plan_lines.specs.declared.note.Note.{Note}
use Rattle.svg_text.specs.Escapes.{escaped}
use Rattle.svg_text.specs.Forms.{line_of}
use Rattle.sheet_words.specs.Reasons.{reason_words}
use Rattle.sheet_page.specs.declared.forms.TheConstants.{REFUSAL_ROW}
use Rattle.sheet_page.specs.declared.refusal_table.Refusals.{Refusals}
use Rattle.sheet_page.specs.declared.refusal_table.TheConstants.{NO_ORDER_FROM_THERE}
use Rattle.sheet_page.specs.Kept.{AreNotesAt}
use Rattle.sheet_page.specs.Left.{action_of_note, is_left_so, left_of}
use Rattle.sheet_page.specs.Ways.{is_way, stations_with, ways_words}

-- the words of a note where these bends are folded
unfoldable pub note_words : JobData → Mask → Note → List ℕ
note_words job mask note =
    let action = action_of_note job note in
    reason_words job action (pose_before job mask action) note.reason

-- two notes stand in one row: they are of one bend and have the same words
abbrev pub is_one_row : JobData → Mask → Note → Note → Bool
is_one_row job mask a b =
    ((action_of_note job a).bend == (action_of_note job b).bend)
    && bytes_eq (note_words job mask a) (note_words job mask b)

-- no earlier one is the same, by a test
abbrev pub is_first : {A : Type 0} → (A → A → Bool) → (earlier : List A) → A → Bool
is_first same earlier x = not (list_any (λ other. same other x) earlier)

-- of the last ones, behind earlier ones, those of which no earlier one is the same
abbrev pub last_firsts : {A : Type 0} → (A → A → Bool) → (earlier last : List A) → List A
last_firsts same earlier [] = []
last_firsts same earlier (x ∷ last) =
    (if is_first same earlier x then x ∷ [] else []) ++ last_firsts same (earlier ++ x ∷ []) last

-- the notes that are the first of their rows
abbrev pub row_firsts : JobData → Mask → List Note → List Note
row_firsts job mask notes = last_firsts (is_one_row job mask) [] notes

-- one of the notes in the row of a note is against an action that is tried in this way
abbrev pub is_refused_so : JobData → Mask → List Note → Note → Back → (station : ℕ) → Bool
is_refused_so job mask notes note back station =
    list_any (λ other. is_one_row job mask other note && is_way (action_of_note job other) back station)
    notes

-- the ways that pass a test, in words
abbrev pub how_words : JobData → (Back → ℕ → Bool) → List ℕ
how_words job test = ways_words (stations_with (test Parent)) (stations_with (test Child)) (stage_count job)

-- a row: a bend, the name of its flange, how it is tried, and the answer
unfoldable pub row_line : JobData → (bend : ℕ) → (how answer : List ℕ) → List ℕ
row_line job bend how answer =
    line_of REFUSAL_ROW.now
    (signed_decimal (pos bend) ∷ escaped (face_at job.part.faces bend).name ∷ escaped how
    ∷ escaped answer ∷ [])

-- the row of a note, of all notes
unfoldable pub refusal_row : JobData → Mask → List Note → Note → List ℕ
refusal_row job mask notes note =
    row_line job (action_of_note job note).bend
    (how_words job (is_refused_so job mask notes note)) (note_words job mask note)

-- the row that a note begins behind earlier ones, where it is the first of one
abbrev pub row_begun : JobData → Mask → (notes earlier : List Note) → Note → List ℕ
row_begun job mask notes earlier note =
    if is_first (is_one_row job mask) earlier note then refusal_row job mask notes note else []

-- the rows of all notes
abbrev pub refusal_rows : JobData → Mask → List Note → List ℕ
refusal_rows job mask notes = flat_map (refusal_row job mask notes) (row_firsts job mask notes)

-- the row of a bend, where strokes of it are left
unfoldable pub left_row : JobData → Mask → List Note → (bend : ℕ) → List ℕ
left_row job mask notes bend =
    if left_of job mask notes bend == 0 then []
    else row_line job bend (how_words job (is_left_so job notes bend)) NO_ORDER_FROM_THERE.now

-- a row for each bend of which strokes are left
abbrev pub left_rows : JobData → Mask → List Note → List ℕ
left_rows job mask notes = flat_map (left_row job mask notes) (numbers_to (bend_count job))

-- each note is against an action that can be tried at the state, and has its words
pub record AreRefusals (refusals : Refusals) : Type 0 where
  pub tried : AreNotesAt refusals.job.now refusals.mask refusals.notes.now
  pub told :
      map (λ words. words.items) refusals.words.items
      ≡ map (note_words refusals.job.now refusals.mask) refusals.notes.now
