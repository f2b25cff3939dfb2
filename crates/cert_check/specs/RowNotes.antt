-- What is kept of the notes of rows: of each row the actions that are noted, and the first note whose
-- reason doesn't hold.
use Rattle.std.specs.Prelude.{◌≡◌, ℕ, ◌-◌, ◌*◌, ◌==◌, ◌&&◌, ◌||◌, ◌<◌, Bool, List, [], ◌∷◌, ◌++◌}
use Rattle.std.specs.Prelude.{All, length, slice_get, slice_index_or, slice_set, Option, Some, None}
use Rattle.std.specs.Prelude.{if◌then◌else◌}
use Rattle.std.specs.List.{list_any}
use Rattle.brake_base.specs.declared.mask.Mask.{Mask}
use Rattle.brake_base.specs.declared.reason.Reason.{Reason}
use Rattle.stage_lanes.specs.declared.actions.ActionSet.{ActionSet}
use Rattle.stage_lanes.specs.ActionSets.{has, has_place, place_of, ArePlaces}
use Rattle.job_setup.specs.Setup.{JobData, bend_count, stage_count}
use Rattle.cert_lines.specs.declared.row_head.RowHead.{RowHead}
use Rattle.plan_lines.specs.declared.note.Note.{Note}
use Rattle.cert_lines.specs.Lines.{action_at}
use Rattle.plan_lines.specs.LinesFit.{IsRow}
use Rattle.plan_cert.specs.WellFormed.{AreRows}
use Rattle.plan_cert.specs.RowFaults.{HoldsAt, IsTried}
use Rattle.cert_check.specs.declared.row_notes.NotePlace.{NotePlace}
use Rattle.cert_check.specs.declared.row_notes.RowNotes.{RowNotes}
use Rattle.cert_check.specs.RowSet.{AreLeadsWithin}

-- whether the action of a number is in the set
abbrev pub is_noted : JobData → ActionSet → ℕ → Bool
is_noted job set number = has set (action_at (stage_count job) number)

-- whether a note is against the action of a number at the row of a number
abbrev pub has_note : List Note → ℕ → ℕ → Bool
has_note notes row number = list_any (λ note. note.row == row && note.action == number) notes

-- there is a set for each row, of the actions that are noted at it, and each note is of a row
pub record AreNoted (job : JobData) (rows : List RowHead) (notes : List Note)
    (sets : List ActionSet) : Type 0 where
  pub count : length sets ≡ length rows
  pub within : All (λ note. note.row < length rows) notes
  pub each :
      (row number : ℕ) (d : ActionSet) → row < length rows
      → number < 2 * bend_count job * stage_count job
      → is_noted job (slice_index_or sets row d) number ≡ has_note notes row number

-- the reason of a note holds at its row
abbrev pub IsSound : JobData → List RowHead → Note → Type 0
IsSound job rows note =
    (head : RowHead) → slice_get rows note.row ≡ Some head
    → HoldsAt job head note.action note.reason

-- it doesn't
abbrev pub IsUnsound : JobData → List RowHead → Note → Type 0
IsUnsound job rows note =
    (head : RowHead) × (slice_get rows note.row ≡ Some head)
    × (HoldsAt job head note.action note.reason → ⊥)

-- a note of this row, action and reason
abbrev pub note_at : ℕ → ℕ → Reason → Note
note_at row action reason = record { row = row; action = action; reason = reason }

-- the place of the first note whose reason doesn't hold; none where each reason holds
abbrev pub IsFirstUnsound : JobData → List RowHead → List Note → Option NotePlace → Type 0
IsFirstUnsound job rows notes None = All (IsSound job rows) notes
IsFirstUnsound job rows notes (Some place) =
    (before : List Note) × (reason : Reason) × (behind : List Note)
    × (notes ≡ before ++ note_at place.row place.action reason ∷ behind)
    × All (IsSound job rows) before
    × IsUnsound job rows (note_at place.row place.action reason)

-- what is kept of the notes of well-formed rows
pub record HasNotes (job : JobData) (rows : List RowHead) (all : List Note)
    (notes : RowNotes) : Type 0 where
  pub form : AreRows job rows all
  pub noted : AreNoted job rows all notes.sets.items
  pub first : IsFirstUnsound job rows all notes.unsound

-- no row and no note
pub record HasNoNotes (notes : RowNotes) : Type 0 where
  pub sets : notes.sets.items ≡ []
  pub unsound : notes.unsound ≡ None

-- by what is kept beside the notes reasons are tested
pub record IsTesting (job : JobData) (notes : RowNotes) : Type 0 where
  pub table : notes.table ≡ job
  pub leads : AreLeadsWithin job notes.folded.mask notes.folded.leads

-- a note of the last row
abbrev pub last_note : RowNotes → ℕ → Reason → Note
last_note notes action reason = note_at (length notes.sets.items - 1) action reason

-- the bends of the mask are folded at the note's row, and its action can be tried there
pub record IsAtRow (job : JobData) (rows : List RowHead) (mask : Mask) (note : Note) : Type 0 where
  pub head : RowHead
  pub at : slice_get rows note.row ≡ Some head
  pub mask_is : head.key.mask ≡ mask
  pub valid : IsRow job head
  pub tried : IsTried job head note.action

-- the action of a number was put into the set of a row
pub record IsActionPut (job : JobData) (row number : ℕ) (before after : List ActionSet) : Type 0 where
  pub set : ActionSet
  pub put : after ≡ slice_set before row set
  pub places :
      (d : ActionSet) → ArePlaces set (λ place. has_place (slice_index_or before row d) place
      || (place == place_of (action_at (stage_count job) number)))

-- the actions of another set were put into the set of a row, where there is one
abbrev pub IsUnionPut : ℕ → ActionSet → List ActionSet → List ActionSet → Type 0
IsUnionPut row more before after = row < length before → (set : ActionSet)
    × (after ≡ slice_set before row set)
    × ((d : ActionSet) → ArePlaces set (λ place. has_place (slice_index_or before row d) place
    || has_place more place))

-- the action of the unsound note, where the note is of the row
abbrev pub unsound_at : ℕ → Option NotePlace → Option ℕ
unsound_at row None = None
unsound_at row (Some place) = if place.row == row then Some place.action else None
