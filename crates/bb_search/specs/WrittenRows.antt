-- The text of a pool's rows and of their reasons.
use Rattle.std.specs.Prelude.{◌≡◌, ◌≢◌, ℕ, suc, ◌+◌, ◌*◌, ◌%◌, ◌<◌, ◌≤◌, ◌&&◌, ◌==◌, nat_lt, is_some}
use Rattle.std.specs.Prelude.{Bool, true, false, if◌then◌else◌, IsTrue, IfSome, Option}
use Rattle.std.specs.Prelude.{Some, None, List, [], ◌∷◌, ◌++◌, codes, length, map, filter, slice_get}
use Rattle.std.specs.Prelude.{All}
use Rattle.std.specs.List.{flat_map, insert}
use Rattle.brake_base.specs.declared.stroke.Key.{Key}
use Rattle.brake_base.specs.declared.stroke.Step.{Step}
use Rattle.brake_base.specs.declared.stroke.Worth.{Worth}
use Rattle.brake_base.specs.declared.reason.Reason.{Reason}
use Rattle.brake_base.specs.declared.reason.Reason.TheVariants.{Cover}
use Rattle.stage_lanes.specs.ActionSets.{has_place, numbers_below}
use Rattle.stage_lanes.specs.Codes.{IsCoded}
use Rattle.row_pool.specs.Index.{HasPlace}
use Rattle.row_pool.specs.Rows.{Pool, PoolRow, IsPool, keys, worth_at, reason_at, common_at}
use Rattle.cert_lines.specs.declared.row_head.RowHead.{RowHead}
use Rattle.plan_lines.specs.declared.note.Note.{Note}
use Rattle.job_setup.specs.Setup.{JobData, stage_count}
use Rattle.cert_lines.specs.declared.format.Format.TheVariants.{Version2}
use Rattle.plan_cert.specs.Cert.{CertData}
use Rattle.cert_lines.specs.JobText.{job_lines}
use Rattle.cert_lines.specs.Lines.{CertLine, lines_text, format_line, claim_line, step_line, row_line}
use Rattle.plan_cert.specs.CertText.{line_of_note, rows_lines}
use Rattle.cert_lines.specs.Lines.{IsWorth}
use Rattle.plan_lines.specs.NoteLines.{number_at}
use Rattle.row_text.specs.Notes.{SetNotes}
use Rattle.row_text.specs.Notes.{reason_at as reason_of}
use Rattle.bb_search.specs.CertRows.{row_order, row_of_order, AreSortedRows, AreHeads, note_order}
use Rattle.bb_search.specs.CertRows.{AreNotes}

-- the text of a certificate up to its rows: the job, the claim and the steps
abbrev pub beginning_text : JobData → Worth → List Step → List ℕ
beginning_text job claim steps =
    lines_text (format_line Version2 ∷ job_lines job)
    ++ lines_text (claim_line claim ∷ map step_line steps)

-- a certificate that has no row
abbrev pub without_rows : Worth → List Step → CertData
without_rows claim steps = record { claim = claim; steps = steps; rows = []; notes = [] }

-- each row has a worth, its key is one of 12 bends at a stage of the machine, and all that is
-- written of it is in range
pub record AreWritable (stages : ℕ) (pool : Pool) : Type 0 where
  pub few : stages ≤ 6
  pub actions : pool.actions ≡ 24 * stages
  pub done : (row : ℕ) → row < length pool.rows → worth_at pool row ≢ None
  pub worths :
      (i : ℕ) (row : PoolRow) (worth : Worth) → slice_get pool.rows i ≡ Some row
      → row.worth ≡ Some worth → IsWorth worth
  pub placed : All (HasPlace pool.actions) (keys pool)
  pub coded :
      (row action : ℕ) (reason : Reason) → reason_at pool row action ≡ Some reason
      → IsCoded reason

-- the reasons that a writer knows are those that the pool's rows with its set have in common
abbrev pub AreCommonReasons : Pool → SetNotes → Type 0
AreCommonReasons pool said =
    (place : ℕ) → place < 192 → IsTrue (has_place said.known place)
    → common_at pool said.mask (number_at said.stages place)
    ≡ Some (reason_of said (number_at said.stages place))

-- a writer of so many stages, which knows no other reasons than the pool's
pub record IsWriterOf (pool : Pool) (stages : ℕ) (said : SetNotes) : Type 0 where
  pub its_stages : said.stages ≡ stages
  pub its_reasons : AreCommonReasons pool said

-- the row of a number has a reason against the action that has this place in sets
abbrev pub is_noted : Pool → ℕ → ℕ → ℕ → Bool
is_noted pool stages row place =
    nat_lt (place % 8) stages && is_some (reason_at pool row (number_at stages place))

-- the places of the actions that a row has a reason against
unfoldable pub noted_places : Pool → ℕ → ℕ → List ℕ
noted_places pool stages row = filter (is_noted pool stages row) (numbers_below 192)

-- a reason that is there
abbrev pub known : Option Reason → Reason
known None = Cover
known (Some reason) = reason

-- the note of the action of a place, at a row that stands at this place among those of a certificate
abbrev pub row_note : Pool → ℕ → ℕ → ℕ → ℕ → Note
row_note pool stages row among place = record {
  row = among;
  action = number_at stages place;
  reason = known (reason_at pool row (number_at stages place));
}

-- the notes of a row, in the order of the actions' numbers
abbrev pub row_notes : Pool → ℕ → ℕ → ℕ → List Note
row_notes pool stages row among =
    map (row_note pool stages row among) (noted_places pool stages row)

-- the line of a row that has a worth
abbrev pub worth_lines : Key → Option Worth → List CertLine
worth_lines key None = []
worth_lines key (Some worth) = row_line (record { key = key; worth = worth }) ∷ []

abbrev pub head_lines : Option PoolRow → List CertLine
head_lines None = []
head_lines (Some row) = worth_lines row.key row.worth

-- the text of the row of a number: its line, and the lines of its notes
unfoldable pub row_text : Pool → ℕ → ℕ → List ℕ
row_text pool stages row =
    lines_text (head_lines (slice_get pool.rows row)
    ++ map (line_of_note stages) (row_notes pool stages row 0))

-- where a number stands among others that don't fall
abbrev pub place_in : ℕ → List ℕ → ℕ
place_in x [] = 0
place_in x (y ∷ ys) = if nat_lt y x then suc (place_in x ys) else 0

-- numbers in ascending order
abbrev pub in_order : List ℕ → List ℕ
in_order [] = []
in_order (x ∷ xs) = insert (in_order xs) (place_in x (in_order xs)) x

-- the places in the order of keys of rows that are numbered from this one on
abbrev pub row_orders : ℕ → List PoolRow → List ℕ
row_orders number [] = []
row_orders number (row ∷ rows) = row_order row.key number ∷ row_orders (number + 1) rows

-- the places of all rows in ascending order
unfoldable pub orders_of : Pool → List ℕ
orders_of pool = in_order (row_orders 0 pool.rows)

-- of these places that of the row of a number and those behind it
abbrev pub orders_from : ℕ → List ℕ → List ℕ
orders_from row [] = []
orders_from row (order ∷ orders) =
    if row_of_order order == row then order ∷ orders else orders_from row orders

-- the text of rows by their places
abbrev pub orders_text : Pool → ℕ → List ℕ → List ℕ
orders_text pool stages orders =
    flat_map (λ order. row_text pool stages (row_of_order order)) orders

-- the text of the rows from one on, in the order of their keys; none where no row is given
unfoldable pub rest_text : Pool → ℕ → Option ℕ → List ℕ
rest_text pool stages None = []
rest_text pool stages (Some row) = orders_text pool stages (orders_from row (orders_of pool))

-- the text of the last line, unless it was given
unfoldable pub end_text : Bool → List ℕ
end_text true = []
end_text false = codes "end\n"

-- what is left of a certificate's text: what is left of its beginning, the rows from the next one
-- on, and the last line
abbrev pub text_left : List ℕ → Pool → ℕ → Option ℕ → Bool → List ℕ
text_left beginning pool stages next is_ended =
    beginning ++ rest_text pool stages next ++ end_text is_ended

-- all that is needed to write the rows from the next one on
pub record CanGoOn (pool : Pool) (stages : ℕ) (said : SetNotes) (next : Option ℕ) : Type 0 where
  pub is_pool : IsPool pool
  pub few_rows : length pool.rows < 4294967296
  pub writable : AreWritable stages pool
  pub writer : IsWriterOf pool stages said
  pub within : IfSome next (λ row. row < length pool.rows)

-- a text has gone on with the rows from one up to the next
pub record GoesOnTo (pool : Pool) (stages : ℕ) (row next : Option ℕ) (old new : List ℕ)
    : Type 0 where
  pub piece : List ℕ
  pub text : new ≡ old ++ piece
  pub rest : rest_text pool stages row ≡ piece ++ rest_text pool stages next
  pub in_range : IfSome next (λ r. r < length pool.rows)

-- a text goes on with the rows that have the first so many places, and with their reasons
pub record AreRowsWritten (pool : Pool) (stages : ℕ) (orders : List ℕ) (count : ℕ)
    (old new : List ℕ) : Type 0 where
  pub rows : List RowHead
  pub notes : List Note
  pub heads : AreHeads pool.rows orders count rows
  pub listed : AreNotes pool orders (note_order count 0) notes
  pub text : new ≡ old ++ lines_text (rows_lines stages rows notes)

-- a text goes on with all rows in the order of their keys, and with their reasons
abbrev pub AreAllRowsWritten : Pool → ℕ → List ℕ → List ℕ → Type 0
AreAllRowsWritten pool stages old new =
    (orders : List ℕ) × AreSortedRows pool.rows orders
    × AreRowsWritten pool stages orders (length orders) old new

-- the text that is left is all of a certificate's: the beginning, all rows of the pool and the last
-- line
abbrev pub IsWholeText : JobData → Worth → List Step → Pool → List ℕ → Type 0
IsWholeText job claim steps pool text =
    (rows : List ℕ)
    × AreAllRowsWritten pool (stage_count job) (beginning_text job claim steps) rows
    × (text ≡ rows ++ codes "end\n")
