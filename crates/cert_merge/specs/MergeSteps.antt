-- How the rows of two tables are merged from the front and written down.
use Rattle.std.specs.Prelude.{ℕ, zero, suc, Bool, List, [], ◌∷◌, ◌++◌, length, map}
use Rattle.std.specs.Prelude.{Option, Some, None, if◌then◌else◌}
use Rattle.brake_base.specs.declared.stroke.Key.{Key}
use Rattle.brake_base.specs.declared.reason.Reason.{Reason}
use Rattle.brake_base.specs.Keys.{key_numbers}
use Rattle.cert_lines.specs.declared.row_head.RowHead.{RowHead}
use Rattle.plan_lines.specs.declared.note.Note.{Note}
use Rattle.cert_merge.specs.declared.merged.Next.{Next}
use Rattle.cert_merge.specs.declared.merged.Next.TheVariants.{First, Second, Both}
use Rattle.cert_merge.specs.Entries.{Settled, stands_before, joined}
use Rattle.cert_merge.specs.Merged.{rows_said}
use Rattle.cert_merge.specs.Table.{TableData}

-- rows by their keys
abbrev pub Rows : Type 0
Rows = List (Key × Settled)

-- the first key stands before the second
abbrev pub key_before : Key → Key → Bool
key_before a b = stands_before (key_numbers a) (key_numbers b)

-- two lists of rows, merged from the front
abbrev pub merge_rows : Rows → Rows → Rows
merge_rows [] ys = ys
merge_rows (x ∷ xs) [] = x ∷ xs
merge_rows (x ∷ xs) (y ∷ ys) = if key_before x.0 y.0
    then x ∷ merge_rows xs (y ∷ ys)
    else if key_before y.0 x.0
    then y ∷ merge_rows (x ∷ xs) ys
    else (x.0, joined x.1 y.1) ∷ merge_rows xs ys

-- a note of a reason, where there is one
abbrev pub noted_as : ℕ → ℕ → Option Reason → List Note
noted_as row action None = []
noted_as row action (Some reason) =
    record { row = row; action = action; reason = reason } ∷ []

-- the notes of a row against the first so many actions
abbrev pub notes_upto : ℕ → (ℕ → Option Reason) → ℕ → List Note
notes_upto row reasons zero = []
notes_upto row reasons (suc count) =
    notes_upto row reasons count ++ noted_as row count (reasons count)

abbrev pub head_of : Key × Settled → RowHead
head_of row = record { key = row.0; worth = row.1.worth }

abbrev pub heads : Rows → List RowHead
heads rows = map head_of rows

-- the most actions that a job has
unfoldable pub most_actions : ℕ
most_actions = 144

-- the notes of rows from a number on
abbrev pub flat : ℕ → Rows → List Note
flat row [] = []
flat row (said ∷ more) = notes_upto row said.1.reasons most_actions ++ flat (suc row) more

-- the table of these rows
abbrev pub written : Rows → TableData
written rows = record { rows = heads rows; notes = flat 0 rows }

-- what the rows of a table say
abbrev pub table_said : TableData → Rows
table_said t = rows_said t.notes 0 t.rows

-- a table with another row behind the others
abbrev pub with_row : TableData → Key × Settled → TableData
with_row t row = record {
  rows = t.rows ++ head_of row ∷ [];
  notes = t.notes ++ notes_upto (length t.rows) row.1.reasons most_actions;
}

-- which of two next keys comes first
abbrev pub next_of : Option Key → Option Key → Next
next_of None second = Second
next_of (Some first) None = First
next_of (Some first) (Some second) =
    if key_before first second then First else if key_before second first then Second else Both
