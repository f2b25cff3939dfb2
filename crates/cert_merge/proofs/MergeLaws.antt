-- The laws of the merge.
use Rattle.std.proofs.Common.{◌≡◌, ◌<◌, length, All, ◌∙◌, sym, ap}
use Rattle.brake_base.specs.declared.stroke.Key.{Key}
use Rattle.plan_lines.specs.declared.note.Note.{Note}
use Rattle.plan_cert.proofs.RowOrder.{no_row}
use Rattle.job_setup.specs.Setup.{JobData}
use Rattle.cert_merge.specs.Table.{TableData, IsTable}
use Rattle.cert_merge.specs.Entries.{merged_at}
use Rattle.cert_merge.specs.Merged.{settled_at, MergeLaws}
use Rattle.cert_merge.proofs.Joining.{merged_commutes, merged_associates, merged_once}
use Rattle.cert_merge.proofs.OneTable.{same_rows, same_notes}

one_table : (job : JobData) (t u : TableData) → IsTable job t → IsTable job u → ((key : Key) → settled_at t key ≡ settled_at u key) → t ≡ u
one_table job t u is_t is_u same =
    let of_t : All (λ (note : Note). note.row < length t.rows) t.notes = λ i d within. (is_t.rows.each_note i d within).row in
    let of_u : All (λ (note : Note). note.row < length u.rows) u.notes = λ i d within. (is_u.rows.each_note i d within).row in
    let rows = same_rows t.rows u.rows t.notes u.notes is_t.rows.row_order is_u.rows.row_order is_t.rows.note_order is_u.rows.note_order of_t of_u same in
    let notes = same_notes t.rows u.rows t.notes u.notes is_t.rows.row_order is_u.rows.row_order is_t.rows.note_order is_u.rows.note_order of_t of_u same no_row in
    λ i. record { rows = rows i; notes = notes i }

pub merge_laws : MergeLaws
merge_laws = record {
  commutes = λ a b merged is key. is key ∙ merged_commutes (settled_at a key) (settled_at b key);
  associates = λ a b c ab bc merged first second is key.
      is key
      ∙ (ap (λ s. merged_at s (settled_at c key)) (first key)
      ∙ (merged_associates (settled_at a key) (settled_at b key) (settled_at c key)
      ∙ ap (λ s. merged_at (settled_at a key) s) (sym (second key))));
  keeps = λ a key. sym (merged_once (settled_at a key));
  one = λ job a b merged other is_merged is_other one two. one_table job merged other is_merged is_other (λ key. one key ∙ sym (two key));
}
