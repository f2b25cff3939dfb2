-- The notes of a row by the set of their actions.
use Rattle.std.specs.Prelude.{◌≡◌, ℕ, ◌%◌, ◌<◌, IsTrue, List, [], ◌∷◌, ◌++◌, All}
use Rattle.std.specs.Prelude.{length, map, slice_index_or}
use Rattle.brake_base.specs.declared.mask.Mask.{Mask}
use Rattle.brake_base.specs.declared.reason.Reason.{Reason}
use Rattle.brake_base.specs.declared.reason.Reason.TheVariants.{Cover}
use Rattle.stage_lanes.specs.declared.actions.ActionSet.{ActionSet}
use Rattle.stage_lanes.specs.ActionSets.{has_place, places_of}
use Rattle.cert_lines.specs.declared.row_head.RowHead.{RowHead}
use Rattle.plan_lines.specs.declared.note.Note.{Note}
use Rattle.plan_lines.specs.NoteLines.{number_at}
use Rattle.cert_lines.specs.Lines.{lines_text}
use Rattle.plan_cert.specs.CertText.{rows_lines}

-- on a machine of so many stages, at a set of folded bends: the actions that have a reason, and the
-- reasons by the numbers of the actions
pub record SetNotes : Type 0 where
  pub stages : ℕ
  pub mask : Mask
  pub known : ActionSet
  pub reasons : List Reason

-- all four together
abbrev pub set_notes : ℕ → Mask → ActionSet → List Reason → SetNotes
set_notes stages mask known reasons = record {
  stages = stages;
  mask = mask;
  known = known;
  reasons = reasons;
}

-- each action of the set is in the other
abbrev pub IsAmong : ActionSet → ActionSet → Type 0
IsAmong set other = (place : ℕ) → place < 192 → IsTrue (has_place set place)
    → IsTrue (has_place other place)

-- each action of the set is at one of so many stages
abbrev pub AreOfStages : ℕ → ActionSet → Type 0
AreOfStages stages set = (place : ℕ) → place < 192 → IsTrue (has_place set place)
    → place % 8 < stages

-- the reason against the action of a number
abbrev pub reason_at : SetNotes → ℕ → Reason
reason_at said number = slice_index_or said.reasons number Cover

-- the note, at the row of a number, of the action that has this place in sets
abbrev pub note_at : SetNotes → ℕ → ℕ → Note
note_at said row place = record {
  row = row;
  action = number_at said.stages place;
  reason = reason_at said (number_at said.stages place);
}

-- the notes of these actions at the row of a number, in the order of the actions' numbers
abbrev pub notes_of : SetNotes → ℕ → ActionSet → List Note
notes_of said row set = map (note_at said row) (places_of set)

-- where a text ends with the lines of rows and their notes, it ends with those of one row more when
-- that row is written
abbrev pub GoOnAs : SetNotes → RowHead → ActionSet → List ℕ → List ℕ → Type 0
GoOnAs said row set old new =
    (before : List ℕ) (rows : List RowHead) (notes : List Note)
    → All (λ note. note.row < length rows) notes
    → old ≡ before ++ lines_text (rows_lines said.stages rows notes)
    → new ≡ before ++ lines_text (rows_lines said.stages (rows ++ row ∷ [])
    (notes ++ notes_of said (length rows) set))
