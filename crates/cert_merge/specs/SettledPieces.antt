-- The text of the rows of settled sets, in pieces.
use Rattle.std.specs.Prelude.{◌≡◌, ℕ, suc, zero, ◌+◌, ◌-◌, ◌*◌, ◌%◌, ◌^◌, ◌<◌, ◌≤◌, nat_lt}
use Rattle.std.specs.Prelude.{if◌then◌else◌, List, [], ◌++◌, codes, length}
use Rattle.std.specs.Prelude.{slice_get, Option, Some, None}
use Rattle.brake_base.specs.declared.stroke.Key.{Key}
use Rattle.job_setup.specs.Setup.{JobData, stage_count}
use Rattle.cert_lines.specs.JobText.{job_text}
use Rattle.cert_lines.specs.Lines.{IsWorth}
use Rattle.cert_merge.specs.declared.set_writer.SetWriter.{SetWriter}
use Rattle.cert_merge.specs.declared.settled_sets.SettledSet.{SettledSet}
use Rattle.cert_merge.specs.declared.settled_sets.SettledSets.{SettledSets}
use Rattle.cert_merge.specs.Table.{TableData}
use Rattle.cert_merge.specs.MergeSteps.{with_row, written}
use Rattle.cert_merge.specs.Settling.{key_of, said_by, IsAmong, SaysSettled}
use Rattle.cert_merge.specs.SetRows.{CanBeWritten, IsSetOf, IsWriterOf, row_of, rows_text}

-- a text goes on with the rows, so many, of a table that says what is settled
pub record AreRowsPut (job : JobData) (low high : ℕ) (settled : SettledSets) (old new : List ℕ)
    (count : ℕ) : Type 0 where
  pub table : TableData
  pub says : SaysSettled job low high settled table
  pub counted : count ≡ length table.rows
  pub text : new ≡ old ++ rows_text (stage_count job) table

-- the lines of the row of a key of a set, and of its notes
abbrev pub row_text : ℕ → Key → Option SettledSet → List ℕ
row_text stages key None = []
row_text stages key (Some set) = rows_text stages (with_row (written []) (row_of set key))

-- those of the key of a number; none where the machine hasn't so many stages
unfoldable pub place_text : SettledSets → ℕ → ℕ → List ℕ
place_text settled stages place =
    if nat_lt (place % 6) stages
    then row_text stages (key_of place)
    (slice_get settled.sets.items (settled.high - (key_of place).mask.0))
    else []

-- those of so many keys from a number on
abbrev pub rest_text : SettledSets → ℕ → ℕ → ℕ → List ℕ
rest_text settled stages place zero = []
rest_text settled stages place (suc count) =
    place_text settled stages place ++ rest_text settled stages (place + 1) count

-- the row of a key of a settled set may be written
pub record CanBePut (settled : SettledSets) (key : Key) : Type 0 where
  pub among : IsAmong settled key.mask
  pub worth : (set : SettledSet) → IsSetOf settled key.mask set → IsWorth (said_by set key).worth

-- all that is needed to write the rows of the keys from a number up to another
pub record CanGoOn (settled : SettledSets) (stages : ℕ) (w : SetWriter) (next end : ℕ)
    : Type 0 where
  pub writable : CanBeWritten stages settled
  pub writer : next < end → IsWriterOf stages settled w
  pub within : next ≤ end
  pub few : end < 2 ^ 20
  pub rows :
      (place : ℕ) → next ≤ place → place < end → place % 6 < stages
      → CanBePut settled (key_of place)

-- a text has gone on with the rows of the keys from one number up to the next
pub record GoesOnTo (settled : SettledSets) (stages end from next : ℕ) (old new : List ℕ)
    : Type 0 where
  pub piece : List ℕ
  pub text : new ≡ old ++ piece
  pub rest : rest_text settled stages from (end - from)
      ≡ piece ++ rest_text settled stages next (end - next)
  pub from_on : from ≤ next
  pub within : next ≤ end

-- the text that is left is all of a table's: the beginning, the base's rows before the range, a row
-- for each key of the range, the base's rows behind it, and the last line
abbrev pub IsWholeText : JobData → ℕ → ℕ → SettledSets → List ℕ → List ℕ → List ℕ → Type 0
IsWholeText job low high settled before behind text =
    (rows : List ℕ)
    × AreRowsPut job low high settled [] rows ((high + 1 - low) * (24 * stage_count job))
    × (text ≡ (codes "brake-table 1\n" ++ job_text job) ++ (before ++ (rows ++ behind))
    ++ codes "end\n")
