-- The rows of a base's text, taken up to a mask and cut at a range.
use Rattle.std.proofs.Common.{◌≡◌, ℕ, ◌+◌, ◌-◌, ◌^◌, ◌<◌, ◌≤◌, List, [], ◌∷◌, ◌++◌, codes, length, take, Some, refl, sym, ◌∙◌, ap, subst, arith, append_assoc, append-nil}
use Rattle.std.proofs.lemmas.Grind.{flat_map-append}
use Rattle.std.proofs.lemmas.List.{length-append, length-map, map-append}
use Rattle.std.proofs.Math.Nat.{pow-le-pow_right}
use Rattle.std.proofs.Math.Seq.{take-append_seam}
use Rattle.job_setup.specs.Setup.{JobData, bend_count}
use Rattle.job_setup.specs.ValidJob.{IsJob}
use Rattle.handling_cost.proofs.Actions.{few_bends}
use Rattle.cert_lines.specs.declared.row_head.RowHead.{RowHead}
use Rattle.cert_merge.specs.declared.base_rows.BaseRows.{BaseRows}
use Rattle.cert_merge.specs.declared.row_texts.RowTexts.{RowTexts}
use Rattle.cert_merge.specs.BaseRows.{AreCut, AreTaken, AreTakenSo, HaveMasks, IsFirstFrom, TakesBelow}
use Rattle.cert_merge.specs.MergeSteps.{Rows, head_of, heads, table_said}
use Rattle.cert_merge.specs.RowTexts.{AreLeft, AreRowsOfJob, rows_text, said_text}
use Rattle.cert_merge.specs.Table.{TableData, IsTable}
use Rattle.cert_merge.specs.TableTexts.{empty_table}
use Rattle.cert_merge.proofs.CutRows.{ascending_split, masks_both, masks_from, masks_kept, masks_push, masks_split}
use Rattle.cert_merge.proofs.FlatForm.{said_ascends, said_heads}
use Rattle.cert_merge.proofs.Merging.{Ascending}
use Rattle.cert_merge.proofs.TableChecking.{row_key}

-- ---- the next row

-- ---- rows up to a mask
pub none_taken : (job : JobData) (rows : Rows) (end : ℕ) (old : List RowHead) (texts : RowTexts) → AreLeft job rows texts → AreTakenSo job rows end old old texts
none_taken job rows end old texts left = record {
  taken = [];
  left = rows;
  whole = refl;
  below = tt;
  heads_are = sym (append-nil old);
  are_left = left;
}

pub one_taken : (job : JobData) (rows : Rows) (end : ℕ) (old middle new : List RowHead) (texts behind : RowTexts) (head : RowHead) → (so : AreTakenSo job rows end old middle texts) → TakesBelow job end so.left (Some (head, behind)) → new ≡ middle ++ head ∷ [] → AreTakenSo job rows end old new behind
one_taken job rows end old middle new texts behind head so next is =
    let said = next.0 in
    let more = next.1 in
    record {
      taken = so.taken ++ said ∷ [];
      left = more;
      whole = so.whole ∙ (ap (λ (left : Rows). so.taken ++ left) next.2 ∙ sym (append_assoc so.taken (said ∷ []) more));
      below = masks_push (λ mask. mask < end) so.taken said so.below next.3;
      heads_are =
          is
          ∙ ((λ i. so.heads_are i ++ next.4 i ∷ [])
          ∙ (append_assoc old (heads so.taken) (head_of said ∷ [])
          ∙ ap (λ (hs : List RowHead). old ++ hs) (sym (map-append head_of so.taken (said ∷ [])))));
      are_left = next.5;
    }

front_is : (xs ys text : List ℕ) (count : ℕ) → text ≡ xs ++ ys → count ≡ length text - length ys → take count text ≡ xs
front_is xs ys text count is at =
    let long = ap (λ (t : List ℕ). length t) is ∙ length-append xs ys in
    let same : count ≡ length xs = omega (arith, at, long) in
    (λ i. take (same i) (is i)) ∙ take-append_seam xs ys

pub all_taken : (job : JobData) (rows : Rows) (end : ℕ) (old new : List RowHead) (begun texts : RowTexts) (text : List ℕ) (count : ℕ) → AreLeft job rows begun → (so : AreTakenSo job rows end old new texts) → IsFirstFrom end so.left
    → count ≡ length begun.rest.now - length texts.rest.now → text ≡ take count begun.rest.now → AreTaken job rows end old text new texts
all_taken job rows end old new begun texts text count left so first at is = record {
  so = so;
  first_left = first;
  text_is = is ∙ front_is (rows_text texts.stages so.taken) texts.rest.now begun.rest.now count whole at;
}
  where
    same : begun.stages ≡ texts.stages
    same = left.stages ∙ sym so.are_left.stages

    whole : begun.rest.now ≡ rows_text texts.stages so.taken ++ texts.rest.now
    whole =
        left.rest
        ∙ ((λ i. rows_text (same i) (so.whole i) ++ codes "end\n")
        ∙ (ap (λ (t : List ℕ). t ++ codes "end\n") (flat_map-append (said_text texts.stages) so.taken so.left)
        ∙ (append_assoc (rows_text texts.stages so.taken) (rows_text texts.stages so.left) (codes "end\n")
        ∙ ap (λ (t : List ℕ). rows_text texts.stages so.taken ++ t) (sym so.are_left.rest))))

-- ---- a base, cut at a range
-- a job's masks are below all that are asked for
none_past : (job : JobData) → IsJob job → (end : ℕ) (rows : Rows) → 4096 ≤ end → AreRowsOfJob job rows → IsFirstFrom end rows → rows ≡ []
none_past job is_job end [] past each first = refl
none_past job is_job end (said ∷ rows) past each first =
    let mask = (row_key job (head_of said) each.0.row).mask in
    let most : 2 ^ bend_count job ≤ 2 ^ 12 = pow-le-pow_right (omega arith) (few_bends job is_job) in
    absurd (omega (arith, past, first, mask, most))

heads_append : (xs ys : Rows) → heads (xs ++ ys) ≡ heads xs ++ heads ys
heads_append xs ys = map-append head_of xs ys

module _ (job : JobData) (base : TableData) (is_base : IsTable job base) (low high end : ℕ) (past : 4096 ≤ end) (begun second third fourth : RowTexts) (one two three : List RowHead) (before middle behind : List ℕ)
    (first_part : AreTaken job (table_said base) low [] before one second) (second_part : AreTaken job first_part.so.left (high + 1) one middle two third) (third_part : AreTaken job second_part.so.left end two behind three fourth) where
  abbrev xs : Rows
  xs = first_part.so.taken

  abbrev ys : Rows
  ys = second_part.so.taken

  abbrev zs : Rows
  zs = third_part.so.taken

  none_left : third_part.so.left ≡ []
  none_left = none_past job is_base.valid end third_part.so.left past third_part.so.are_left.each third_part.first_left

  last_whole : second_part.so.left ≡ zs
  last_whole = third_part.so.whole ∙ (ap (λ (left : Rows). zs ++ left) none_left ∙ append-nil zs)

  all_rows : table_said base ≡ xs ++ (ys ++ zs)
  all_rows = first_part.so.whole ∙ ap (λ (left : Rows). xs ++ left) (second_part.so.whole ∙ ap (λ (left : Rows). ys ++ left) last_whole)

  up : Ascending (xs ++ (ys ++ zs))
  up = subst Ascending all_rows (said_ascends base.notes 0 base.rows is_base.rows.row_order)

  rest_up : Ascending (ys ++ zs)
  rest_up = (ascending_split xs (ys ++ zs) up).1

  from_low : HaveMasks (λ mask. low ≤ mask) (ys ++ zs)
  from_low = masks_from low (ys ++ zs) rest_up (subst (IsFirstFrom low) (second_part.so.whole ∙ ap (λ (left : Rows). ys ++ left) last_whole) first_part.first_left)

  from_high : HaveMasks (λ mask. high + 1 ≤ mask) zs
  from_high = masks_from (high + 1) zs (ascending_split ys zs rest_up).1 (subst (IsFirstFrom (high + 1)) last_whole second_part.first_left)

  pub are_cut : (rows : BaseRows) → rows.heads.items ≡ three → rows.before.now ≡ before → rows.behind.now ≡ behind → rows.inside ≡ length two - length one → AreCut job base low high rows
  are_cut rows heads_is before_is behind_is count = record {
    first = xs;
    among = ys;
    last = zs;
    whole = all_rows;
    lesser = first_part.so.below;
    within = masks_kept (λ mask. (low ≤ mask) × (mask < high + 1)) (λ mask. (low ≤ mask) × (mask ≤ high)) (λ mask at. let less = at.1 in (at.0, omega (arith, less))) ys
        (masks_both (λ mask. low ≤ mask) (λ mask. mask < high + 1) ys (masks_split (λ mask. low ≤ mask) ys zs from_low).0 second_part.so.below);
    greater = masks_kept (λ mask. high + 1 ≤ mask) (λ mask. high < mask) (λ mask from. omega (arith, from)) zs from_high;
    heads_are =
        heads_is
        ∙ (third_part.so.heads_are
        ∙ ((λ i. (second_part.so.heads_are ∙ ap (λ (hs : List RowHead). hs ++ heads ys) first_part.so.heads_are) i ++ heads zs)
        ∙ (append_assoc (heads xs) (heads ys) (heads zs)
        ∙ (sym (heads_append xs (ys ++ zs) ∙ ap (λ (hs : List RowHead). heads xs ++ hs) (heads_append ys zs))
        ∙ (ap heads (sym all_rows) ∙ said_heads base.notes 0 base.rows)))));
    before_is = before_is ∙ (first_part.text_is ∙ ap (λ (n : ℕ). rows_text n xs) first_part.so.are_left.stages);
    behind_is = behind_is ∙ (third_part.text_is ∙ ap (λ (n : ℕ). rows_text n zs) third_part.so.are_left.stages);
    count_is = count ∙ counted;
  }
    where
      counted : length two - length one ≡ length ys
      counted =
          let long = ap (λ (hs : List RowHead). length hs) second_part.so.heads_are ∙ length-append one (heads ys) in
          let as_many = length-map ys head_of in
          omega (arith, long, as_many)

-- a base without rows
pub nothing_cut : (job : JobData) (low high : ℕ) (rows : BaseRows) → rows.heads.items ≡ [] → rows.before.now ≡ [] → rows.behind.now ≡ [] → rows.inside ≡ 0 → AreCut job empty_table low high rows
nothing_cut job low high rows heads_is before_is behind_is count = record {
  first = [];
  among = [];
  last = [];
  whole = refl;
  lesser = tt;
  within = tt;
  greater = tt;
  heads_are = heads_is;
  before_is = before_is;
  behind_is = behind_is;
  count_is = count;
}
