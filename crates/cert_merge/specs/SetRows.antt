-- The rows of a settled set as text. All rows of a set have the same notes.
use Rattle.std.specs.Prelude.{◌≡◌, ℕ, ◌-◌, ◌*◌, ◌%◌, ◌<◌, ◌≤◌, IsTrue, List}
use Rattle.std.specs.Prelude.{◌++◌, length, All, slice_get, slice_index_or, Option, Some, None}
use Rattle.brake_base.specs.declared.mask.Mask.{Mask}
use Rattle.brake_base.specs.declared.stroke.Key.{Key}
use Rattle.brake_base.specs.declared.reason.Reason.{Reason}
use Rattle.stage_lanes.specs.declared.actions.ActionSet.{ActionSet}
use Rattle.stage_lanes.specs.ActionSets.{has_place}
use Rattle.stage_lanes.specs.Codes.{IsCoded}
use Rattle.cert_lines.specs.Lines.{lines_text}
use Rattle.plan_cert.specs.CertText.{rows_lines}
use Rattle.plan_lines.specs.NoteLines.{number_at}
use Rattle.row_text.specs.Notes.{SetNotes, IsAmong, reason_at}
use Rattle.cert_merge.specs.declared.set_writer.SetWriter.{SetWriter}
use Rattle.cert_merge.specs.declared.settled_sets.SettledSet.{SettledSet}
use Rattle.cert_merge.specs.declared.settled_sets.SettledSets.{SettledSets}
use Rattle.cert_merge.specs.Entries.{Settled}
use Rattle.cert_merge.specs.Table.{TableData}
use Rattle.cert_merge.specs.MergeSteps.{with_row}
use Rattle.cert_merge.specs.Settling.{said_by}

-- the actions are those that have a reason, and a writer has these reasons
pub record AreNotesOf (reasons : List (Option Reason)) (said : SetNotes) (notes : ActionSet)
    : Type 0 where
  pub noted : (place : ℕ) → place < 192 → IsTrue (has_place notes place)
      → (place % 8 < said.stages) × (slice_index_or reasons (number_at said.stages place) None
      ≡ Some (reason_at said (number_at said.stages place)))
  pub all : (place : ℕ) (reason : Reason) → place < 192 → place % 8 < said.stages
      → slice_index_or reasons (number_at said.stages place) None ≡ Some reason
      → IsTrue (has_place notes place)
  pub among : IsAmong notes said.known

-- only actions of a machine of so many stages have a reason, and each reason has a code
abbrev pub AreWritable : ℕ → List (Option Reason) → Type 0
AreWritable stages reasons =
    (number : ℕ) (reason : Reason) → slice_index_or reasons number None ≡ Some reason
    → (number < 24 * stages) × IsCoded reason

-- it is the set of a mask that is settled
abbrev pub IsSetOf : SettledSets → Mask → SettledSet → Type 0
IsSetOf settled mask set = slice_get settled.sets.items (settled.high - mask.0) ≡ Some set

-- the reasons of each settled set may be written
pub record CanBeWritten (stages : ℕ) (settled : SettledSets) : Type 0 where
  pub few : stages ≤ 6
  pub reasons :
      (mask : Mask) (set : SettledSet) → IsSetOf settled mask set → AreWritable stages set.reasons

-- a writer of the rows of settled sets, begun with one of them
pub record IsWriterOf (stages : ℕ) (settled : SettledSets) (w : SetWriter) : Type 0 where
  pub its_stages : w.writer.stages ≡ stages
  pub its_notes :
      (set : SettledSet) → IsSetOf settled w.writer.mask set
      → AreNotesOf set.reasons w.writer w.notes

-- the row of a key of a set
abbrev pub row_of : SettledSet → Key → Key × Settled
row_of set key = (key, said_by set key)

-- the lines of a table's rows, each with its notes
abbrev pub rows_text : ℕ → TableData → List ℕ
rows_text stages t = lines_text (rows_lines stages t.rows t.notes)

-- where a text ends with a table's rows, it ends with those and the key's when this row is written
abbrev pub IsRowPut : ℕ → SettledSets → Key → List ℕ → List ℕ → Type 0
IsRowPut stages settled key old new =
    (set : SettledSet) → IsSetOf settled key.mask set → (before : List ℕ) (t : TableData)
    → All (λ note. note.row < length t.rows) t.notes → old ≡ before ++ rows_text stages t
    → new ≡ before ++ rows_text stages (with_row t (row_of set key))
