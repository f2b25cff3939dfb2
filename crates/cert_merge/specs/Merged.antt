-- The merge of two tables of one job, key by key.
use Rattle.std.specs.Prelude.{◌≡◌, ℕ, suc, ◌==◌, ◌&&◌, List, [], ◌∷◌, Option, Some, None}
use Rattle.std.specs.Prelude.{if◌then◌else◌}
use Rattle.brake_base.specs.declared.stroke.Key.{Key}
use Rattle.brake_base.specs.declared.reason.Reason.{Reason}
use Rattle.cert_lines.specs.declared.row_head.RowHead.{RowHead}
use Rattle.plan_lines.specs.declared.note.Note.{Note}
use Rattle.job_setup.specs.Setup.{JobData}
use Rattle.cert_merge.specs.Entries.{Settled, said_of, merged_at}
use Rattle.cert_merge.specs.Table.{TableData, IsTable, IsClosedTable}

-- of two reasons that are noted the later one, or the one that there is
abbrev pub later_of : Option Reason → Option Reason → Option Reason
later_of earlier None = earlier
later_of earlier (Some reason) = Some reason

-- the reason of a note, where it is against the action of a number at the row of a number
abbrev pub noted_by : Note → ℕ → ℕ → Option Reason
noted_by note row action = if note.row == row && note.action == action
    then Some note.reason
    else None

-- the reason that is noted against it; the last one counts, and a well formed table has but one
abbrev pub reason_noted : List Note → ℕ → ℕ → Option Reason
reason_noted [] row action = None
reason_noted (note ∷ notes) row action =
    later_of (noted_by note row action) (reason_noted notes row action)

-- the rows from a number on, each with its key, its worth and its notes
abbrev pub rows_said : List Note → ℕ → List RowHead → List (Key × Settled)
rows_said notes row [] = []
rows_said notes row (head ∷ heads) =
    (head.key, record { worth = head.worth; reasons = reason_noted notes row })
    ∷ rows_said notes (suc row) heads

-- what a table says of a key
abbrev pub settled_at : TableData → Key → Option Settled
settled_at t key = said_of key (rows_said t.notes 0 t.rows)

-- the table says of each key what both say of it together
abbrev pub IsMerged : TableData → TableData → TableData → Type 0
IsMerged a b merged =
    (key : Key) → settled_at merged key ≡ merged_at (settled_at a key) (settled_at b key)

-- the merge of tables that are well formed for a job is so too
abbrev pub KeepsForm : TableData → TableData → TableData → Type 0
KeepsForm a b merged = (job : JobData) → IsTable job a → IsTable job b → IsTable job merged

-- and that of closed tables is closed
abbrev pub KeepsClosed : TableData → TableData → TableData → Type 0
KeepsClosed a b merged =
    (job : JobData) → IsTable job a → IsTable job b → IsClosedTable job a → IsClosedTable job b
    → IsClosedTable job merged

-- tables are merged in any order, in any grouping and as often as one likes, and what a table says
-- of each key makes it up
pub record MergeLaws : Type 0 where
  pub commutes : (a b merged : TableData) → IsMerged a b merged → IsMerged b a merged
  pub associates : (a b c ab bc merged : TableData) → IsMerged a b ab → IsMerged b c bc
      → IsMerged ab c merged → IsMerged a bc merged
  pub keeps : (a : TableData) → IsMerged a a a
  pub one : (job : JobData) (a b merged other : TableData) → IsTable job merged
      → IsTable job other → IsMerged a b merged → IsMerged a b other → merged ≡ other
