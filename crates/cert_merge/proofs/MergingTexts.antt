-- The rows of two texts, taken in the order of their keys.
use Rattle.std.proofs.Common.{◌≡◌, ℕ, ◌≤◌, [], ◌∷◌, ◌++◌, Option, Some, None, refl, sym, ap, subst, ◌∙◌, append_assoc, append-nil}
use Rattle.std.specs.Prelude.{option_map}
use Rattle.brake_base.specs.declared.stroke.Key.{Key}
use Rattle.job_setup.specs.Setup.{JobData, stage_count}
use Rattle.cert_lines.specs.declared.row_head.RowHead.{RowHead}
use Rattle.cert_merge.specs.declared.merged.Next.TheVariants.{First, Second, Both}
use Rattle.cert_merge.specs.declared.merged_rows.MergedRows.{MergedRows}
use Rattle.cert_merge.specs.declared.row_texts.Side.{Side}
use Rattle.cert_merge.specs.declared.row_texts.RowText.{RowText}
use Rattle.cert_merge.specs.declared.row_texts.RowTexts.{RowTexts}
use Rattle.cert_merge.specs.Entries.{Settled, joined}
use Rattle.cert_merge.specs.MergeSteps.{Rows, merge_rows, next_of}
use Rattle.cert_merge.specs.MergedRows.{AreOfOneKey, AreSides, GoesOnBy, HoldsRows, IsUnderway}
use Rattle.cert_merge.specs.RowTexts.{AreLeft, IsSide, IsTextOfRow, TakesRow, next_key}
use Rattle.cert_merge.specs.UnitedRows.{AreOfJob}
use Rattle.cert_merge.proofs.Taking.{first_key, takes_first, takes_second, takes_both}

-- ---- a side
-- where a next row is at hand there is one that it is of
pub record HasNext (job : JobData) (rows : Rows) (stages : ℕ) (row : RowText) (texts : RowTexts) : Type 0 where
  pub said : Key × Settled
  pub more : Rows
  pub whole : rows ≡ said ∷ more
  pub text_is : IsTextOfRow job stages said row
  pub left : AreLeft job more texts

pub has_next : (job : JobData) (rows : Rows) (side : Side) (row : RowText) → side.next ≡ Some row → IsSide job rows side → HasNext job rows side.texts.stages row side.texts
has_next job rows side row some is = by_rows rows (subst (λ (n : Option RowText). TakesRow job rows n side.texts) some is)
  where
    by_rows : (rows : Rows) → TakesRow job rows (Some row) side.texts → HasNext job rows side.texts.stages row side.texts
    by_rows [] is = absurd is
    by_rows (said ∷ more) is = record { said = said; more = more; whole = refl; text_is = is.0; left = is.1 }

-- its key is that of the first row
key_is : (job : JobData) (rows : Rows) (side : Side) → IsSide job rows side → next_key side ≡ first_key rows
key_is job rows side is = by_next rows side.next is
  where
    by_next : (rows : Rows) (next : Option RowText) → TakesRow job rows next side.texts → option_map (λ (row : RowText). row.head.key) next ≡ first_key rows
    by_next [] None is = refl
    by_next [] (Some row) is = absurd is
    by_next (said ∷ rows) None is = absurd is
    by_next (said ∷ rows) (Some row) is = ap (λ (h : RowHead). Some h.key) is.0.head

none_left : (job : JobData) (rows : Rows) (side : Side) → side.next ≡ None → IsSide job rows side → rows ≡ []
none_left job rows side none is = by_rows rows (subst (λ (n : Option RowText). TakesRow job rows n side.texts) none is)
  where
    by_rows : (rows : Rows) → TakesRow job rows None side.texts → rows ≡ []
    by_rows [] is = refl
    by_rows (said ∷ rows) is = absurd is

-- the text of a row, on as many stages as the job has
with_stages : (job : JobData) (bends stages : ℕ) (said : Key × Settled) (row : RowText) → AreOfJob job bends stages → IsTextOfRow job stages said row → IsTextOfRow job (stage_count job) said row
with_stages job bends stages said row counts is = subst (λ (n : ℕ). IsTextOfRow job n said row) counts.stages_are is

still_of : (job : JobData) (old new : Side) → new.texts.bends ≡ old.texts.bends → new.texts.stages ≡ old.texts.stages → AreOfJob job old.texts.bends old.texts.stages → AreOfJob job new.texts.bends new.texts.stages
still_of job old new bends stages counts = record { bends_are = bends ∙ counts.bends_are; stages_are = stages ∙ counts.stages_are }

-- ---- the next row of two sides
module _ (job : JobData) (xs ys : Rows) (first second : Side) (sides : AreSides job xs ys first second) where
  keys_are : next_of (next_key first) (next_key second) ≡ next_of (first_key xs) (first_key ys)
  keys_are = λ i. next_of (key_is job xs first sides.xs_are i) (key_is job ys second sides.ys_are i)

  module _ (done : Rows) (merged after : MergedRows) (holds : HoldsRows (stage_count job) done merged) where
    -- that of the first
    pub first_goes : (new : Side) (row : RowText) → first.next ≡ Some row → next_of (next_key first) (next_key second) ≡ First
        → ((said : Key × Settled) → HoldsRows (stage_count job) done merged → IsTextOfRow job (stage_count job) said row → HoldsRows (stage_count job) (done ++ said ∷ []) after)
        → ((rows : Rows) → AreLeft job rows first.texts → IsSide job rows new) → new.texts.bends ≡ first.texts.bends → new.texts.stages ≡ first.texts.stages
        → GoesOnBy job done xs ys after new second
    first_goes new row some is put on bends stages =
        let has = has_next job xs first row some sides.xs_are in
        let tested : next_of (Some has.said.0) (first_key ys) ≡ First = sym (keys_are ∙ ap (λ (rows : Rows). next_of (first_key rows) (first_key ys)) has.whole) ∙ is in
        record {
          said = has.said;
          xs_left = has.more;
          ys_left = ys;
          whole = ap (λ (rows : Rows). merge_rows rows ys) has.whole ∙ takes_first has.said has.more ys tested;
          underway = record {
            sides = record {
              xs_are = on has.more has.left;
              ys_are = sides.ys_are;
              counts = still_of job first new bends stages sides.counts;
              others = sides.others;
              few_bends = subst (λ (n : ℕ). n ≤ 12) (sym bends) sides.few_bends;
              few_stages = subst (λ (n : ℕ). n ≤ 6) (sym stages) sides.few_stages;
            };
            holds = put has.said holds (with_stages job first.texts.bends first.texts.stages has.said row sides.counts has.text_is);
          };
        }

    -- that of the second
    pub second_goes : (new : Side) (row : RowText) → second.next ≡ Some row → next_of (next_key first) (next_key second) ≡ Second
        → ((said : Key × Settled) → HoldsRows (stage_count job) done merged → IsTextOfRow job (stage_count job) said row → HoldsRows (stage_count job) (done ++ said ∷ []) after)
        → ((rows : Rows) → AreLeft job rows second.texts → IsSide job rows new) → new.texts.bends ≡ second.texts.bends → new.texts.stages ≡ second.texts.stages
        → GoesOnBy job done xs ys after first new
    second_goes new row some is put on bends stages =
        let has = has_next job ys second row some sides.ys_are in
        let tested : next_of (first_key xs) (Some has.said.0) ≡ Second = sym (keys_are ∙ ap (λ (rows : Rows). next_of (first_key xs) (first_key rows)) has.whole) ∙ is in
        record {
          said = has.said;
          xs_left = xs;
          ys_left = has.more;
          whole = ap (λ (rows : Rows). merge_rows xs rows) has.whole ∙ takes_second has.said xs has.more tested;
          underway = record {
            sides = record {
              xs_are = sides.xs_are;
              ys_are = on has.more has.left;
              counts = sides.counts;
              others = still_of job second new bends stages sides.others;
              few_bends = sides.few_bends;
              few_stages = sides.few_stages;
            };
            holds = put has.said holds (with_stages job second.texts.bends second.texts.stages has.said row sides.others has.text_is);
          };
        }

-- two rows of one key are next
pub record HasBoth (job : JobData) (xs ys : Rows) (first second : Side) : Type 0 where
  pub x : Key × Settled
  pub y : Key × Settled
  pub xs_more : Rows
  pub ys_more : Rows
  pub xs_whole : xs ≡ x ∷ xs_more
  pub ys_whole : ys ≡ y ∷ ys_more
  pub taken : (merge_rows (x ∷ xs_more) (y ∷ ys_more) ≡ (x.0, joined x.1 y.1) ∷ merge_rows xs_more ys_more) × (x.0 ≡ y.0)

pub has_both : (job : JobData) (xs ys : Rows) (first second : Side) → AreSides job xs ys first second → next_of (next_key first) (next_key second) ≡ Both → HasBoth job xs ys first second
has_both job xs ys first second sides is = by_rows xs ys (sym (keys_are job xs ys first second sides) ∙ is)
  where
    by_rows : (xs ys : Rows) → next_of (first_key xs) (first_key ys) ≡ Both → HasBoth job xs ys first second
    by_rows [] [] e = absurd (cc)
    by_rows [] (y ∷ ys) e = absurd (cc)
    by_rows (x ∷ xs) [] e = absurd (cc)
    by_rows (x ∷ xs) (y ∷ ys) e = record { x = x; y = y; xs_more = xs; ys_more = ys; xs_whole = refl; ys_whole = refl; taken = takes_both x y xs ys e }

pub sides_of : (job : JobData) (xs ys : Rows) (first second : Side) (sides : AreSides job xs ys first second) (has : HasBoth job xs ys first second) → AreSides job (has.x ∷ has.xs_more) (has.y ∷ has.ys_more) first second
sides_of job xs ys first second sides has = record {
  xs_are = subst (λ (rows : Rows). IsSide job rows first) has.xs_whole sides.xs_are;
  ys_are = subst (λ (rows : Rows). IsSide job rows second) has.ys_whole sides.ys_are;
  counts = sides.counts;
  others = sides.others;
  few_bends = sides.few_bends;
  few_stages = sides.few_stages;
}

-- ---- a row with what two say
module _ (job : JobData) (xs ys : Rows) (x y : Key × Settled) (first second : Side) (sides : AreSides job (x ∷ xs) (y ∷ ys) first second) (same : x.0 ≡ y.0)
    (row other : RowText) (some : first.next ≡ Some row) (some_too : second.next ≡ Some other) where
  first_row : IsTextOfRow job first.texts.stages x row × AreLeft job xs first.texts
  first_row = subst (λ (n : Option RowText). TakesRow job (x ∷ xs) n first.texts) some sides.xs_are

  second_row : IsTextOfRow job second.texts.stages y other × AreLeft job ys second.texts
  second_row = subst (λ (n : Option RowText). TakesRow job (y ∷ ys) n second.texts) some_too sides.ys_are

  pub first_left : AreLeft job xs first.texts
  first_left = first_row.1

  pub second_left : AreLeft job ys second.texts
  second_left = second_row.1

  pub of_one_key : AreOfOneKey job first.texts.bends first.texts.stages x y row other
  of_one_key = record {
    counts = sides.counts;
    first_is = first_row.0;
    second_is = subst (λ (n : ℕ). IsTextOfRow job n y other) (sides.others.stages_are ∙ sym sides.counts.stages_are) second_row.0;
    key = same;
  }

  both_go : (done : Rows) (merged after : MergedRows) (first_after second_after : Side) → HoldsRows (stage_count job) done merged
      → (HoldsRows first.texts.stages done merged → AreOfOneKey job first.texts.bends first.texts.stages x y row other → HoldsRows first.texts.stages (done ++ (x.0, joined x.1 y.1) ∷ []) after)
      → ((rows : Rows) → AreLeft job rows first.texts → IsSide job rows first_after) → ((rows : Rows) → AreLeft job rows second.texts → IsSide job rows second_after)
      → first_after.texts.bends ≡ first.texts.bends → first_after.texts.stages ≡ first.texts.stages → second_after.texts.bends ≡ second.texts.bends → second_after.texts.stages ≡ second.texts.stages
      → IsUnderway job (done ++ (x.0, joined x.1 y.1) ∷ []) xs ys after first_after second_after
  both_go done merged after first_after second_after holds put on on_too bends stages bends_too stages_too = record {
    sides = record {
      xs_are = on xs first_row.1;
      ys_are = on_too ys second_row.1;
      counts = still_of job first first_after bends stages sides.counts;
      others = still_of job second second_after bends_too stages_too sides.others;
      few_bends = subst (λ (n : ℕ). n ≤ 12) (sym bends) sides.few_bends;
      few_stages = subst (λ (n : ℕ). n ≤ 6) (sym stages) sides.few_stages;
    };
    holds =
        let stages_are = sides.counts.stages_are in
        subst (λ (n : ℕ). HoldsRows n (done ++ (x.0, joined x.1 y.1) ∷ []) after) stages_are
        (put (subst (λ (n : ℕ). HoldsRows n done merged) (sym stages_are) holds) of_one_key);
  }

-- what both say of the next key
pub both_goes : (job : JobData) (done xs ys : Rows) (merged after : MergedRows) (first second first_after second_after : Side) (row other : RowText) → IsUnderway job done xs ys merged first second → next_of (next_key first) (next_key second) ≡ Both
    → first.next ≡ Some row → second.next ≡ Some other
    → ((x y : Key × Settled) → HoldsRows first.texts.stages done merged → AreOfOneKey job first.texts.bends first.texts.stages x y row other → HoldsRows first.texts.stages (done ++ (x.0, joined x.1 y.1) ∷ []) after)
    → ((rows : Rows) → AreLeft job rows first.texts → IsSide job rows first_after) → ((rows : Rows) → AreLeft job rows second.texts → IsSide job rows second_after)
    → first_after.texts.bends ≡ first.texts.bends → first_after.texts.stages ≡ first.texts.stages → second_after.texts.bends ≡ second.texts.bends → second_after.texts.stages ≡ second.texts.stages
    → GoesOnBy job done xs ys after first_after second_after
both_goes job done xs ys merged after first second first_after second_after row other under is some some_too put on on_too bends stages bends_too stages_too =
    let has = has_both job xs ys first second under.sides is in
    record {
      said = (has.x.0, joined has.x.1 has.y.1);
      xs_left = has.xs_more;
      ys_left = has.ys_more;
      whole = (λ i. merge_rows (has.xs_whole i) (has.ys_whole i)) ∙ has.taken.0;
      underway =
          both_go job has.xs_more has.ys_more has.x has.y first second (sides_of job xs ys first second under.sides has) has.taken.1 row other some some_too done merged after first_after second_after under.holds
          (put has.x has.y) on on_too bends stages bends_too stages_too;
    }

-- ---- all rows
-- some rows of the two lists are put, and the others are left
pub record AreLeftOver (job : JobData) (done xs ys : Rows) (merged : MergedRows) (first second : Side) : Type 0 where
  pub put : Rows
  pub xs_left : Rows
  pub ys_left : Rows
  pub whole : done ++ merge_rows xs ys ≡ put ++ merge_rows xs_left ys_left
  pub underway : IsUnderway job put xs_left ys_left merged first second

pub at_first : (job : JobData) (done xs ys : Rows) (merged : MergedRows) (first second : Side) → IsUnderway job done xs ys merged first second → AreLeftOver job done xs ys merged first second
at_first job done xs ys merged first second under = record { put = done; xs_left = xs; ys_left = ys; whole = refl; underway = under }

pub one_more : (job : JobData) (done xs ys : Rows) (merged after : MergedRows) (first second first_after second_after : Side)
    → ((done xs ys : Rows) → IsUnderway job done xs ys merged first second → GoesOnBy job done xs ys after first_after second_after)
    → AreLeftOver job done xs ys merged first second → AreLeftOver job done xs ys after first_after second_after
one_more job done xs ys merged after first second first_after second_after goes left =
    let on = goes left.put left.xs_left left.ys_left left.underway in
    record {
      put = left.put ++ on.said ∷ [];
      xs_left = on.xs_left;
      ys_left = on.ys_left;
      whole = left.whole ∙ ap (λ (rows : Rows). left.put ++ rows) on.whole ∙ sym (append_assoc left.put (on.said ∷ []) (merge_rows on.xs_left on.ys_left));
      underway = on.underway;
    }

pub all_over : (job : JobData) (done xs ys : Rows) (merged : MergedRows) (first second : Side) → first.next ≡ None → second.next ≡ None → AreLeftOver job done xs ys merged first second → HoldsRows (stage_count job) (done ++ merge_rows xs ys) merged
all_over job done xs ys merged first second none none_too left =
    let over = none_left job left.xs_left first none left.underway.sides.xs_are in
    let over_too = none_left job left.ys_left second none_too left.underway.sides.ys_are in
    subst (λ (rows : Rows). HoldsRows (stage_count job) rows merged)
    (sym (left.whole ∙ (λ i. left.put ++ merge_rows (over i) (over_too i)) ∙ append-nil left.put)) left.underway.holds

-- the sides of two texts of which nothing is taken
pub sides_begun : (job : JobData) (done xs ys : Rows) (merged : MergedRows) (texts others : RowTexts) (first second : Side) → HoldsRows (stage_count job) done merged → AreLeft job xs texts → AreLeft job ys others
    → IsSide job xs first → IsSide job ys second → first.texts.bends ≡ texts.bends → first.texts.stages ≡ texts.stages → second.texts.bends ≡ others.bends → second.texts.stages ≡ others.stages
    → IsUnderway job done xs ys merged first second
sides_begun job done xs ys merged texts others first second holds left left_too is is_too bends stages bends_too stages_too = record {
  sides = record {
    xs_are = is;
    ys_are = is_too;
    counts = record { bends_are = bends ∙ left.bends; stages_are = stages ∙ left.stages };
    others = record { bends_are = bends_too ∙ left_too.bends; stages_are = stages_too ∙ left_too.stages };
    few_bends = subst (λ (n : ℕ). n ≤ 12) (sym bends) left.few_bends;
    few_stages = subst (λ (n : ℕ). n ≤ 6) (sym stages) left.few_stages;
  };
  holds = holds;
}
