-- The rows and notes of a certificate, taken from those of a pool.
use Rattle.std.specs.Prelude.{◌≡◌, ◌≢◌, ℕ, ◌+◌, ◌*◌, ◌%◌, ◌<◌, Option, Some, List, length}
use Rattle.std.specs.Prelude.{slice_get, slice_index_or, Contains, All, AllPairs}
use Rattle.brake_base.specs.declared.stroke.Key.{Key}
use Rattle.brake_base.specs.declared.reason.Reason.{Reason}
use Rattle.row_pool.specs.Rows.{Pool, PoolRow, reason_at}
use Rattle.row_pool.specs.Store.{key_number}
use Rattle.cert_lines.specs.declared.row_head.RowHead.{RowHead}
use Rattle.plan_lines.specs.declared.note.Note.{Note}

-- a row's place in the order of keys, as one number: the number of its key, and then its own
abbrev pub row_order : Key → ℕ → ℕ
row_order key row = key_number key * 4294967296 + row

-- the number of the row that has this place in the order of keys
abbrev pub row_of_order : ℕ → ℕ
row_of_order order = order % 4294967296

-- the place of some row
abbrev pub IsRowOrder : List PoolRow → ℕ → Type 0
IsRowOrder rows order =
    (row : PoolRow) × (slice_get rows (row_of_order order) ≡ Some row)
    × (order ≡ row_order row.key (row_of_order order))

-- the places of the first so many rows, and no others, each once
pub record AreRowOrders (rows : List PoolRow) (count : ℕ) (orders : List ℕ) : Type 0 where
  pub all : length orders ≡ count
  pub each : (i : ℕ) (row : PoolRow) → i < count → slice_get rows i ≡ Some row
      → Contains orders (row_order row.key i)
  pub only : All (IsRowOrder rows) orders
  pub below : All (λ order. row_of_order order < count) orders
  pub distinct : AllPairs (λ a b. a ≢ b) orders

-- the places of all rows, and no others, in ascending order; there are less than 2^32 of them
pub record AreSortedRows (rows : List PoolRow) (orders : List ℕ) : Type 0 where
  pub all : length orders ≡ length rows
  pub each : (i : ℕ) (row : PoolRow) → slice_get rows i ≡ Some row
      → Contains orders (row_order row.key i)
  pub only : All (IsRowOrder rows) orders
  pub ascending : AllPairs (λ a b. a < b) orders
  pub few : length rows < 4294967296

-- the key and the worth of a row
abbrev pub IsHeadOf : List PoolRow → ℕ → RowHead → Type 0
IsHeadOf rows number head =
    (row : PoolRow) × (slice_get rows number ≡ Some row) × (row.key ≡ head.key)
    × (row.worth ≡ Some head.worth)

-- the keys and the worths of the rows with the first so many places
pub record AreHeads (rows : List PoolRow) (orders : List ℕ) (count : ℕ)
    (heads : List RowHead) : Type 0 where
  pub all : length heads ≡ count
  pub each : (i order : ℕ) (head : RowHead) → slice_get orders i ≡ Some order
      → slice_get heads i ≡ Some head → IsHeadOf rows (row_of_order order) head

-- the reason for the action of a number at the row that has the place of this number
abbrev pub reason_in : Pool → List ℕ → ℕ → ℕ → Option Reason
reason_in pool orders place action =
    reason_at pool (row_of_order (slice_index_or orders place 0)) action

-- where a note of this row and action stands among notes
abbrev pub note_order : ℕ → ℕ → ℕ
note_order place action = 256 * place + action

-- the note is of a reason of the pool
pub record IsNoteOf (pool : Pool) (orders : List ℕ) (until : ℕ) (note : Note) : Type 0 where
  pub action : note.action < 256
  pub early : note_order note.row note.action < until
  pub reason : reason_in pool orders note.row note.action ≡ Some note.reason

-- the reasons of the rows that stand before this place among notes, and no others, in order
pub record AreNotes (pool : Pool) (orders : List ℕ) (until : ℕ) (notes : List Note) : Type 0 where
  pub each : (place action : ℕ) (reason : Reason) → action < 256 → note_order place action < until
      → reason_in pool orders place action ≡ Some reason
      → Contains notes (record { row = place; action = action; reason = reason })
  pub only : All (IsNoteOf pool orders until) notes
  pub ascending : AllPairs (λ (a b : Note). note_order a.row a.action
      < note_order b.row b.action) notes
