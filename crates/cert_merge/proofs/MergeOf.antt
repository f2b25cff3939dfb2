-- The merge of two tables: its form, and that it stays closed.
use Rattle.cert_merge.specs.Table.{TableData}
use Rattle.cert_merge.specs.Merged.{KeepsForm, KeepsClosed}
use Rattle.cert_merge.specs.MergeSteps.{merge_rows, table_said, written}
use Rattle.cert_merge.proofs.MergedForm.{is_merged, merged_form}
use Rattle.cert_merge.proofs.MergedClosed.{merged_closed}

-- the rows of the merge, written
abbrev pub merge_of : TableData → TableData → TableData
merge_of a b = written (merge_rows (table_said a) (table_said b))

pub keeps_form : (a b : TableData) → KeepsForm a b (merge_of a b)
keeps_form a b job is_a is_b = record { valid = is_a.valid; rows = merged_form job a b is_a is_b }

pub keeps_closed : (a b : TableData) → KeepsClosed a b (merge_of a b)
keeps_closed a b job is_a is_b closed_a closed_b =
    merged_closed job a b (merge_of a b) is_a is_b (keeps_form a b job is_a is_b) (is_merged job a b is_a is_b) closed_a closed_b
