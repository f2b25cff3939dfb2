-- The rows of a table's text as they stand, one behind the other.
use Rattle.std.specs.Prelude.{◌≡◌, ℕ, ◌+◌, ◌*◌, ◌==◌, ◌<◌, ◌≤◌, Bool, true, false, List, [], ◌∷◌, ◌++◌, map}
use Rattle.std.specs.Prelude.{codes, length, Option, Some, None, option_map, is_some}
use Rattle.std.specs.Prelude.{if◌then◌else◌}
use Rattle.std.specs.List.{flat_map}
use Rattle.brake_base.specs.declared.stroke.Key.{Key}
use Rattle.job_setup.specs.Setup.{JobData, bend_count, stage_count}
use Rattle.brake_base.specs.declared.reason.Reason.{Reason}
use Rattle.plan_lines.specs.LinesFit.{IsRow, IsReasonInRange}
use Rattle.cert_lines.specs.Lines.{CertLine, lines_text, row_line}
use Rattle.plan_cert.specs.CertText.{line_of_note}
use Rattle.cert_merge.specs.declared.row_texts.RowText.{RowText}
use Rattle.cert_merge.specs.declared.row_texts.RowTexts.{RowTexts}
use Rattle.cert_merge.specs.declared.row_texts.Side.{Side}
use Rattle.cert_merge.specs.Entries.{Settled}
use Rattle.cert_merge.specs.MergeSteps.{Rows, head_of, most_actions, notes_upto}

-- the lines of the notes of a row
abbrev pub note_lines : ℕ → Key × Settled → List CertLine
note_lines stages row = map (line_of_note stages) (notes_upto 0 row.1.reasons most_actions)

-- their text
unfoldable pub notes_text : ℕ → Key × Settled → List ℕ
notes_text stages row = lines_text (note_lines stages row)

-- the text of a row with its notes
unfoldable pub said_text : ℕ → Key × Settled → List ℕ
said_text stages row = lines_text (row_line (head_of row) ∷ note_lines stages row)

-- the text of rows
abbrev pub rows_text : ℕ → Rows → List ℕ
rows_text stages rows = flat_map (said_text stages) rows

-- a reason against the action of a number, in a job
pub record IsNoteOfJob (job : JobData) (number : ℕ) (reason : Reason) : Type 0 where
  pub action : number < 2 * bend_count job * stage_count job
  pub range : IsReasonInRange job reason

-- a row of a job, with notes of it
pub record IsRowOfJob (job : JobData) (said : Key × Settled) : Type 0 where
  pub row : IsRow job (head_of said)
  pub notes :
      (number : ℕ) (reason : Reason) → said.1.reasons number ≡ Some reason
      → IsNoteOfJob job number reason

-- each row is so
abbrev pub AreRowsOfJob : JobData → Rows → Type 0
AreRowsOfJob job [] = Unit {0}
AreRowsOfJob job (said ∷ rows) = IsRowOfJob job said × AreRowsOfJob job rows

-- the bytes up to the first line that doesn't begin with `x`, from the start of a line or from
-- within one
abbrev pub note_bytes : Bool → List ℕ → List ℕ
note_bytes at_start [] = []
note_bytes true (byte ∷ text) = if byte == 120 then byte ∷ note_bytes false text else []
note_bytes false (byte ∷ text) = byte ∷ note_bytes (byte == 10) text

-- the text begins as the line of a note does
abbrev pub begins_with_note : List ℕ → Bool
begins_with_note [] = false
begins_with_note (byte ∷ text) = byte == 120

-- whole lines that begin with `x`, from the start of a line or from within one
abbrev pub AreNoteLines : Bool → List ℕ → Type 0
AreNoteLines true [] = Unit {0}
AreNoteLines false [] = ⊥
AreNoteLines true (byte ∷ text) = (byte ≡ 120) × AreNoteLines false text
AreNoteLines false (byte ∷ text) = AreNoteLines (byte == 10) text

-- the rows are those of a table of the job that are still to be read, and the last line
pub record AreLeft (job : JobData) (rows : Rows) (texts : RowTexts) : Type 0 where
  pub bends : texts.bends ≡ bend_count job
  pub few_bends : texts.bends ≤ 12
  pub stages : texts.stages ≡ stage_count job
  pub few_stages : texts.stages ≤ 6
  pub each : AreRowsOfJob job rows
  pub rest : texts.rest.now ≡ rows_text texts.stages rows ++ codes "end\n"
  pub notes : AreNoteLines true texts.notes.now

-- it is the text of what a row of the job says
pub record IsTextOfRow (job : JobData) (stages : ℕ) (said : Key × Settled) (row : RowText)
    : Type 0 where
  pub of_job : IsRowOfJob job said
  pub head : row.head ≡ head_of said
  pub lines : row.lines.now ≡ said_text stages said
  pub notes : row.notes.now ≡ notes_text stages said

-- the first of the rows is taken, where there is one
abbrev pub TakesRow : JobData → Rows → Option RowText → RowTexts → Type 0
TakesRow job [] None texts = Unit {0}
TakesRow job (said ∷ rows) (Some row) texts =
    IsTextOfRow job texts.stages said row × AreLeft job rows texts
TakesRow job _ _ texts = ⊥

-- these rows of the job are left on a side
abbrev pub IsSide : JobData → Rows → Side → Type 0
IsSide job rows side = TakesRow job rows side.next side.texts

-- the key of the next row of a side
abbrev pub next_key : Side → Option Key
next_key side = option_map (λ row. row.head.key) side.next

-- a number that falls with each row that is taken from a side: the bytes behind the next row, and
-- one where there is a next row
abbrev pub size_of_side : Side → ℕ
size_of_side side = length side.texts.rest.now + (if is_some side.next then 1 else 0)
