-- The rows of the keys of a range as text, one by one in the order of their keys.
use Rattle.std.proofs.Common.{◌≡◌, inl, inr, ℕ, ◌+◌, ◌-◌, ◌*◌, ◌^◌, ◌<◌, ◌≤◌, List, [], ◌++◌, length, Some, None, refl, sym, ◌∙◌, ap, arith}
use Rattle.std.proofs.lemmas.List.{append-nil, length_push}
use Rattle.std.proofs.lemmas.Option.{slice_get_cases}
use Rattle.brake_base.specs.declared.mask.Mask.{Mask}
use Rattle.brake_base.specs.declared.stroke.Key.{Key}
use Rattle.brake_base.specs.declared.stroke.Worth.{Worth}
use Rattle.job_setup.specs.Setup.{JobData, bend_count, stage_count}
use Rattle.job_setup.specs.ValidJob.{IsJob}
use Rattle.sweep_check.proofs.Ascending.{pairs_nil}
use Rattle.brake_base.specs.Keys.{KeyIsBefore}
use Rattle.plan_cert.specs.WellFormed.{NoteIsBefore}
use Rattle.plan_cert.specs.CertText.{rows_lines}
use Rattle.cert_merge.specs.declared.settled_sets.SettledSet.{SettledSet}
use Rattle.cert_merge.specs.declared.settled_sets.SettledSets.{SettledSets}
use Rattle.cert_merge.specs.Table.{TableData, IsTable}
use Rattle.cert_merge.specs.TableTexts.{empty_table}
use Rattle.cert_merge.specs.MergeSteps.{head_of, with_row, written}
use Rattle.cert_merge.specs.Settling.{AreSettledBy, HasSets, IsAmong, IsKeyAt}
use Rattle.cert_merge.specs.SetRows.{IsSetOf, row_of, rows_text, IsRowPut}
use Rattle.cert_merge.specs.SettledPieces.{AreRowsPut}
use Rattle.cert_merge.proofs.SettledRows.{AreRowsBefore, in_range, range_among, none_before, row_on, none_on, notes_before, all_said}
use Rattle.cert_merge.proofs.SetNotes.{said_of_set}

-- a text goes on with the rows, so many, of the keys of the range before the one of a number
pub record ArePutBefore (job : JobData) (low high : ℕ) (settled : SettledSets) (place : ℕ) (old new : List ℕ) (count : ℕ) : Type 0 where
  pub table : TableData
  pub before : AreRowsBefore job low high settled place table
  pub counted : count ≡ length table.rows
  pub text : new ≡ old ++ rows_text (stage_count job) table

pub put_none : (job : JobData) (low high : ℕ) (settled : SettledSets) (place : ℕ) (old new : List ℕ) → place ≡ low * 144 → new ≡ old → ArePutBefore job low high settled place old new 0
unfolding rows_lines
put_none job low high settled place old new at same = record {
  table = written [];
  before = none_before job low high settled place (written []) at refl;
  counted = refl;
  text = same ∙ sym (append-nil old);
}

module _ (job : JobData) (is_job : IsJob job) (low high : ℕ) (settled : SettledSets) (has : HasSets low high settled) (below : high + 1 < 2 ^ bend_count job) (proved : Key → Worth) (are : AreSettledBy job proved settled) where
  -- the mask of a key of the range is settled
  pub key_among : (place : ℕ) (key : Key) → low * 144 ≤ place → place < (high + 1) * 144 → IsKeyAt job place (Some key) → IsAmong settled key.mask
  key_among place key from less at =
      let here = at.1 in
      range_among job low high settled has key (in_range job is_job low high settled has below key at.0 (omega (arith, here, from)) (omega (arith, here, less)))

  -- the row of the next number
  pub put_more : (place : ℕ) (key : Key) (set : SettledSet) (old new after : List ℕ) (count : ℕ) → low * 144 ≤ place → place < (high + 1) * 144 → IsKeyAt job place (Some key) → key.mask.0 ≤ settled.high → IsSetOf settled key.mask set
      → IsRowPut (stage_count job) settled key new after → ArePutBefore job low high settled place old new count → ArePutBefore job low high settled (place + 1) old after (count + 1)
  put_more place key set old new after count from less at most is put so_far = record {
    table = with_row so_far.table (row_of set key);
    before = row_on job is_job low high settled has below place so_far.table (with_row so_far.table (row_of set key)) key (row_of set key) from less at refl
        (said_of_set job is_job low high settled has below proved are key set most is) refl so_far.before;
    counted = ap (λ (n : ℕ). n + 1) so_far.counted ∙ sym (length_push so_far.table.rows (head_of (row_of set key)));
    text = put set is old so_far.table (notes_before job is_job low high settled has below proved are place so_far.table so_far.before) so_far.text;
  }

  -- a number of no key of the job
  pub put_same : (place : ℕ) (old new : List ℕ) (count : ℕ) → IsKeyAt job place None → ArePutBefore job low high settled place old new count → ArePutBefore job low high settled (place + 1) old new count
  put_same place old new count none so_far = record {
    table = so_far.table;
    before = none_on job is_job low high settled has below place so_far.table none so_far.before;
    counted = so_far.counted;
    text = so_far.text;
  }

  pub put_all : (place : ℕ) (old new : List ℕ) (count : ℕ) → (high + 1) * 144 ≤ place → ArePutBefore job low high settled place old new count → AreRowsPut job low high settled old new count
  put_all place old new count end so_far = record {
    table = so_far.table;
    says = all_said job is_job low high settled has below proved are place so_far.table end so_far.before;
    counted = so_far.counted;
    text = so_far.text;
  }

-- ---- the table that is settled over no base
-- a table without rows
pub empty_is_table : (job : JobData) → IsJob job → IsTable job empty_table
empty_is_table job valid = record {
  valid = valid;
  rows = record {
    each_row = λ k d within. absurd (omega (arith, within));
    row_order = pairs_nil KeyIsBefore;
    each_note = λ k d within. absurd (omega (arith, within));
    note_order = pairs_nil NoteIsBefore;
  };
}

-- there is a set of each mask that is settled
pub set_there : (settled : SettledSets) (mask : Mask) → IsAmong settled mask → (set : SettledSet) × IsSetOf settled mask set
set_there settled mask among = elim (slice_get_cases settled.sets.items (settled.high - mask.0)).1 [
  | inl found ↦ (found.0, found.2)
  | inr past ↦ let within = among.within in let from = past.0 in absurd (omega (arith, within, from))
]
