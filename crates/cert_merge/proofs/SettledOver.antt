-- The text of what is settled over a base.
use Rattle.std.proofs.Common.{◌≡◌, ℕ, ◌+◌, ◌-◌, ◌*◌, ◌≤◌, List, ◌++◌, codes, length, Option, Some, None, refl, sym, ◌∙◌, ap, subst, arith}
use Rattle.std.proofs.lemmas.Grind.{flat_map-append}
use Rattle.std.proofs.lemmas.List.{length-append, length-map}
use Rattle.brake_base.specs.declared.stroke.Key.{Key}
use Rattle.job_setup.specs.Setup.{JobData, stage_count}
use Rattle.handling_cost.specs.Plan.{start}
use Rattle.handling_cost.proofs.Keys.{start_in_range}
use Rattle.cert_lines.specs.declared.row_head.RowHead.{RowHead}
use Rattle.cert_lines.specs.Lines.{IsWorth}
use Rattle.plan_cert.specs.CertText.{table_text}
use Rattle.plan_cert.proofs.RowOrder.{few_rows}
use Rattle.cert_merge.specs.declared.base_rows.BaseRows.{BaseRows}
use Rattle.cert_merge.specs.declared.settled_sets.SettledSets.{SettledSets}
use Rattle.cert_merge.specs.declared.settled_text.SettledText.{SettledText}
use Rattle.cert_merge.specs.BaseRows.{AreCut, HaveMasks}
use Rattle.cert_merge.specs.Entries.{Settled, said_of, merged_at}
use Rattle.cert_merge.specs.Merged.{settled_at}
use Rattle.cert_merge.specs.MergeSteps.{Rows, flat, head_of, heads, merge_rows, table_said}
use Rattle.cert_merge.specs.RowTexts.{said_text, rows_text}
use Rattle.cert_merge.specs.Settled.{IsSettled}
use Rattle.cert_merge.specs.SettledPieces.{IsWholeText}
use Rattle.cert_merge.specs.SettledText.{IsSettledText}
use Rattle.cert_merge.specs.Settling.{proved_over, AreSettled, HasSets, SaysSettled}
use Rattle.cert_merge.specs.Table.{TableData, IsTable, IsClosedTable}
use Rattle.cert_merge.specs.SetRows.{rows_text as rows_text_of}
use Rattle.cert_merge.proofs.CutRows.{cut_merged, masks_said}
use Rattle.cert_merge.proofs.FlatForm.{said_ascends, length_said}
use Rattle.cert_merge.proofs.MergedForm.{is_merged}
use Rattle.cert_merge.proofs.MergeOf.{merge_of, keeps_form}
use Rattle.cert_merge.proofs.Merging.{Ascending}
use Rattle.cert_merge.proofs.OneSettled.{settled_one, key_of_row}
use Rattle.cert_merge.proofs.SaidTexts.{beginning_of, rows_text_written, rows_written, table_again}
use Rattle.cert_merge.proofs.SettledBase.{new_row_stays}
use Rattle.cert_merge.proofs.SettledLaws.{settled_closed, settled_least}
use Rattle.cert_merge.proofs.SettledTable.{settled_merge, agree, new_row}

module _ (job : JobData) (base new : TableData) (low high : ℕ) (settled : SettledSets) (order : low ≤ high) (is_base : IsTable job base) (closed : IsClosedTable job base) (has : HasSets low high settled) (says : SaysSettled job low high settled new)
    (are : AreSettled job base.rows settled) (rows : BaseRows) (cut : AreCut job base low high rows) where
  abbrev t : TableData
  t = merge_of base new

  both : IsSettled job base low high t × IsTable job t
  both = settled_merge job base new t low high settled base.rows refl is_base has says are (is_merged job base new is_base says.form) (λ j a b. keeps_form base new j a b)

  new_up : Ascending (table_said new)
  new_up = said_ascends new.notes 0 new.rows says.form.rows.row_order

  new_masks : HaveMasks (λ mask. (low ≤ mask) × (mask ≤ high)) (table_said new)
  new_masks = masks_said (λ mask. (low ≤ mask) × (mask ≤ high)) (table_said new) new_up (λ key said e. let range = says.only key said e in (range.first, range.last))

  -- what both say of a key of the range is its new row
  both_said : (key : Key) → low ≤ key.mask.0 → key.mask.0 ≤ high → (o : Option Settled) → settled_at base key ≡ o → merged_at o (settled_at new key) ≡ settled_at new key
  both_said key from upto None e = refl
  both_said key from upto (Some x) e =
      let one = new_row job base new t low high settled is_base both.1 has says are (is_merged job base new is_base says.form) key (record { of_job = key_of_row job base is_base key x e; first = from; last = upto }) in
      ap (merged_at (Some x)) one.1 ∙ (ap Some (new_row_stays job base t low high is_base both.1 both.0 closed key x one.0 e one.2) ∙ sym one.1)

  -- so its rows are the base's before the range, the new ones, and the base's behind it
  abbrev all_rows : Rows
  all_rows = cut.first ++ (table_said new ++ cut.last)

  rows_are : merge_rows (table_said base) (table_said new) ≡ all_rows
  rows_are =
      ap (λ (rows : Rows). merge_rows rows (table_said new)) cut.whole
      ∙ cut_merged low high cut.first cut.among cut.last (table_said new) cut.lesser cut.within cut.greater new_masks
      (λ key from upto. subst (λ (rows : Rows). merged_at (said_of key rows) (settled_at new key) ≡ settled_at new key) cut.whole (both_said key from upto (settled_at base key) refl))
      order (subst Ascending cut.whole (said_ascends base.notes 0 base.rows is_base.rows.row_order)) new_up

  abbrev stages : ℕ
  stages = stage_count job

  text_is : (text new_text : List ℕ) → new_text ≡ rows_text_of stages new → text ≡ beginning_of job ++ (rows.before.now ++ (new_text ++ rows.behind.now)) ++ codes "end\n" → text ≡ table_text job t.rows t.notes
  text_is text new_text of_new is =
      let new_is : new_text ≡ rows_text stages (table_said new) =
      of_new ∙ (ap (rows_text_of stages) (sym (table_again job new says.form)) ∙ sym (rows_text_written stages (table_said new))) in
      is
      ∙ ((λ i. beginning_of job ++ (cut.before_is i ++ (new_is i ++ cut.behind_is i)) ++ codes "end\n")
      ∙ (ap (λ (u : List ℕ). beginning_of job ++ (rows_text stages cut.first ++ u) ++ codes "end\n") (sym (flat_map-append (said_text stages) (table_said new) cut.last))
      ∙ (ap (λ (u : List ℕ). beginning_of job ++ u ++ codes "end\n") (sym (flat_map-append (said_text stages) cut.first (table_said new ++ cut.last)))
      ∙ (rows_written job stages all_rows refl ∙ ap (λ (rows : Rows). table_text job (heads rows) (flat 0 rows)) (sym rows_are)))))

  counted : (count : ℕ) → count ≡ length new.rows + (length base.rows - rows.inside) → count ≡ length t.rows
  counted count is =
      let its : length t.rows ≡ length (heads all_rows) = ap (λ (rows : Rows). length (heads rows)) rows_are in
      let all = length-map all_rows head_of in
      let first = length-append cut.first (table_said new ++ cut.last) in
      let rest = length-append (table_said new) cut.last in
      let of_base = ap (λ (rows : Rows). length rows) cut.whole ∙ (length-append cut.first (cut.among ++ cut.last) ∙ ap (λ (n : ℕ). length cut.first + n) (length-append cut.among cut.last)) in
      let base_long = length_said base.notes 0 base.rows in
      let new_long = length_said new.notes 0 new.rows in
      let inside = cut.count_is in
      omega (arith, is, its, all, first, rest, of_base, base_long, new_long, inside)

  pub settled_told : (told : SettledText) (new_text : List ℕ) → new_text ≡ rows_text_of stages new → told.text ≡ beginning_of job ++ (rows.before.now ++ (new_text ++ rows.behind.now)) ++ codes "end\n"
      → told.rows ≡ length new.rows + (length base.rows - rows.inside) → told.at_start ≡ proved_over job base.rows settled start → IsWorth told.at_start → IsSettledText job base low high told
  settled_told told new_text of_new text count proves small =
      let rows_same = counted told.rows count in
      record {
        table = t;
        tells = record {
          text_is = text_is told.text new_text of_new text;
          rows_are = rows_same;
          start_is = proves ∙ agree job base new t low high settled is_base both.1 has says are (is_merged job base new is_base says.form) start (start_in_range job is_base.valid);
        };
        few = let most = few_rows job is_base.valid t.rows (record { each = both.1.rows.each_row; order = both.1.rows.row_order }) in omega (arith, rows_same, most);
        small = small;
        settled = both.0;
        one = settled_one job base t low high both.1 both.0;
        form = both.1;
        closed = settled_closed job base t low high is_base both.1 both.0 closed;
        least = settled_least job base t low high is_base both.1 both.0;
      }

-- no more rows stand in the range than the base has
pub few_inside : (job : JobData) (base : TableData) (low high : ℕ) (rows : BaseRows) → AreCut job base low high rows → rows.inside ≤ length rows.heads.items
few_inside job base low high rows cut =
    let all = ap (λ (hs : List RowHead). length hs) cut.heads_are in
    let long = length_said base.notes 0 base.rows in
    let parts = ap (λ (said : Rows). length said) cut.whole ∙ (length-append cut.first (cut.among ++ cut.last) ∙ ap (λ (n : ℕ). length cut.first + n) (length-append cut.among cut.last)) in
    let inside = cut.count_is in
    omega (arith, all, long, parts, inside)

-- the same of the sets' text as it is left to be given
pub over_told : (job : JobData) (base : TableData) (low high : ℕ) (settled : SettledSets) → low ≤ high → IsTable job base → IsClosedTable job base → HasSets low high settled → (heads_at : List RowHead) → heads_at ≡ base.rows → AreSettled job heads_at settled → (rows : BaseRows) → AreCut job base low high rows
    → (told : SettledText) → IsWholeText job low high settled rows.before.now rows.behind.now told.text → told.rows ≡ (high + 1 - low) * (24 * stage_count job) + (length heads_at - rows.inside) → told.at_start ≡ proved_over job heads_at settled start → IsWorth told.at_start → IsSettledText job base low high told
over_told job base low high settled order is_base closed has heads_at same are rows cut told whole count proves small =
    let put = whole.1 in
    settled_told job base put.table low high settled order is_base closed has put.says (subst (λ (hs : List RowHead). AreSettled job hs settled) same are) rows cut told whole.0 put.text whole.2
    (count ∙ (λ i. put.counted i + (length (same i) - rows.inside))) (proves ∙ ap (λ (hs : List RowHead). proved_over job hs settled start) same) small
