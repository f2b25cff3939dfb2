-- Rows put behind others.
use Rattle.std.proofs.Common.{◌≡◌, ◌↔◌, ℕ, suc, ◌-◌, ◌≤◌, Bool, true, false, IsTrue, List, [], ◌∷◌, ◌++◌, length, take, drop, All, refl, sym, ap, subst, ◌∙◌, arith, append-nil, get_or}
use Rattle.std.proofs.lemmas.Bool.{both_ways}
use Rattle.std.proofs.lemmas.Grind.{flat_map-append}
use Rattle.std.proofs.lemmas.List.{length-append, length-drop, take-append-le, drop-append-le, take_all}
use Rattle.std.proofs.lemmas.List.Elements.{All-append, All-nil, All-cons}
use Rattle.std.proofs.Math.Seq.{drop-append_seam}
use Rattle.brake_base.specs.declared.stroke.Key.{Key}
use Rattle.brake_base.specs.declared.stroke.Worth.{Worth}
use Rattle.brake_base.specs.Worths.{IsAtMost}
use Rattle.job_setup.specs.Setup.{JobData}
use Rattle.cert_lines.specs.declared.row_head.RowHead.{RowHead}
use Rattle.cert_merge.specs.declared.merged_rows.MergedRows.{MergedRows}
use Rattle.cert_merge.specs.declared.merged_rows.Part.{Part}
use Rattle.cert_merge.specs.declared.merged_rows.Part.TheVariants as parts
use Rattle.cert_merge.specs.declared.row_texts.RowText.{RowText}
use Rattle.cert_merge.specs.Entries.{Settled, is_at_most, joined, united}
use Rattle.cert_merge.specs.MergeSteps.{Rows, head_of, heads}
use Rattle.cert_merge.specs.MergedRows.{AreOfOneKey, HoldsRows, IsWithin, part_text, parts_text}
use Rattle.cert_merge.specs.RowTexts.{rows_text, said_text}
use Rattle.cert_merge.specs.UnitedRows.{AreOfOneRow}
use Rattle.cert_merge.proofs.Joining.{joined_lower, joined_higher, joined_equal, most_told, most_tested, same_worth}
use Rattle.cert_merge.proofs.UnitedRows.{same_reasons, said_same}
use Rattle.cert_merge.proofs.Writing.{heads_push}

-- ---- more texts of joined rows
part_same : (text more : List ℕ) (part : Part) → IsWithin text part → part_text (text ++ more) part ≡ part_text text part
part_same text more (parts.Row bytes) within = refl
part_same text more (parts.Joined start end) within =
    let order = within.0 in
    let inside = within.1 in
    let room : end - start ≤ length (drop start text) = rw length-drop (omega (arith, order, inside)) in
    ap (λ (t : List ℕ). take (end - start) t) (drop-append-le start text more (omega (arith, order, inside))) ∙ take-append-le (end - start) (drop start text) more room

parts_same : (text more : List ℕ) (all : List Part) → All (IsWithin text) all → parts_text (text ++ more) all ≡ parts_text text all
parts_same text more [] within = refl
parts_same text more (part ∷ all) within = λ i. part_same text more part (within 0 part (omega arith)) i ++ parts_same text more all (λ k d inside. within (suc k) d (omega (arith, inside))) i

still_within : (text more : List ℕ) (part : Part) → IsWithin text part → IsWithin (text ++ more) part
still_within text more (parts.Row bytes) within = tt
still_within text more (parts.Joined start end) within = (within.0, let inside = within.1 in omega (arith, inside, length-append text more))

last_part : (text more : List ℕ) → part_text (text ++ more) (parts.Joined (length text) (length (text ++ more))) ≡ more
last_part text more =
    let all : length (text ++ more) - length text ≡ length more = omega (arith, length-append text more) in
    ap (λ (t : List ℕ). take (length (text ++ more) - length text) t) (drop-append_seam text more) ∙ take_all (length (text ++ more) - length text) more (omega (arith, all))

rows_push : (stages : ℕ) (done : Rows) (said : Key × Settled) → rows_text stages (done ++ said ∷ []) ≡ rows_text stages done ++ said_text stages said
rows_push stages done said = flat_map-append (said_text stages) done (said ∷ []) ∙ ap (λ (t : List ℕ). rows_text stages done ++ t) (append-nil (said_text stages said))

-- a row more with its text among those of joined rows
pub united_put : (stages : ℕ) (done : Rows) (said : Key × Settled) (head : RowHead) (old new : MergedRows) → HoldsRows stages done old → head ≡ head_of said → new.heads.items ≡ old.heads.items ++ head ∷ []
    → new.joined.items ≡ old.joined.items ++ said_text stages said
    → new.parts.items ≡ old.parts.items ++ parts.Joined (length old.joined.items) (length new.joined.items) ∷ []
    → HoldsRows stages (done ++ said ∷ []) new
united_put stages done said head old new holds head_is heads_new joined_new parts_new =
    let text = old.joined.items in
    let more = said_text stages said in
    let last = parts.Joined (length text) (length (text ++ more)) in
    let all : new.parts.items ≡ old.parts.items ++ last ∷ [] = parts_new ∙ ap (λ (t : List ℕ). old.parts.items ++ parts.Joined (length text) (length t) ∷ []) joined_new in
    record {
      heads_are = heads_new ∙ (λ i. holds.heads_are i ++ head_is i ∷ []) ∙ sym (heads_push done said);
      text_is =
          (λ i. parts_text (joined_new i) (all i))
          ∙ flat_map-append (part_text (text ++ more)) old.parts.items (last ∷ [])
          ∙ (λ i. parts_same text more old.parts.items holds.within i ++ append-nil (part_text (text ++ more) last) i)
          ∙ (λ i. holds.text_is i ++ last_part text more i)
          ∙ sym (rows_push stages done said);
      within =
          subst (λ (t : List ℕ). All (IsWithin t) new.parts.items) (sym joined_new)
          (subst (λ (ps : List Part). All (IsWithin (text ++ more)) ps) (sym all)
          (All-append (IsWithin (text ++ more)) old.parts.items (last ∷ [])
          (λ k d inside. still_within text more (get_or old.parts.items k d) (holds.within k d inside))
          (All-cons (IsWithin (text ++ more)) last [] (omega (arith, length-append text more), omega arith) (All-nil (IsWithin (text ++ more))))));
    }

-- what is held of a row is held of another with the same text
pub holds_same : (stages : ℕ) (done : Rows) (x y : Key × Settled) (merged : MergedRows) → head_of x ≡ head_of y → said_text stages x ≡ said_text stages y → HoldsRows stages (done ++ x ∷ []) merged → HoldsRows stages (done ++ y ∷ []) merged
holds_same stages done x y merged head text holds = record {
  heads_are = holds.heads_are ∙ heads_push done x ∙ ap (λ (h : RowHead). heads done ++ h ∷ []) head ∙ sym (heads_push done y);
  text_is = holds.text_is ∙ rows_push stages done x ∙ ap (λ (t : List ℕ). rows_text stages done ++ t) text ∙ sym (rows_push stages done y);
  within = holds.within;
}

-- ---- two rows of one key
at_most_is : (told : Bool) (a b : Worth) → IsTrue told ↔ IsAtMost a b → is_at_most a b ≡ told
at_most_is true a b is = most_tested a b (is.0 refl)
at_most_is false a b is = by_test (is_at_most a b) refl
  where
    by_test : (t : Bool) → is_at_most a b ≡ t → is_at_most a b ≡ false
    by_test false e = e
    by_test true e = absurd (both_ways false refl (is.1 (most_told a b e)))

module _ (job : JobData) (bends stages : ℕ) (x y : Key × Settled) (first second : RowText) (are : AreOfOneKey job bends stages x y first second) where
  -- the tests tell how the worths compare
  pub second_at_most : (told : Bool) → IsTrue told ↔ IsAtMost second.head.worth first.head.worth → is_at_most y.1.worth x.1.worth ≡ told
  second_at_most told is = (λ i. is_at_most (sym are.second_is.head i).worth (sym are.first_is.head i).worth) ∙ at_most_is told second.head.worth first.head.worth is

  pub first_at_most : (told : Bool) → IsTrue told ↔ IsAtMost first.head.worth second.head.worth → is_at_most x.1.worth y.1.worth ≡ told
  first_at_most told is = (λ i. is_at_most (sym are.first_is.head i).worth (sym are.second_is.head i).worth) ∙ at_most_is told first.head.worth second.head.worth is

  abbrev with_key : Settled → Key × Settled
  with_key said = (x.0, said)

  pub second_alone : is_at_most y.1.worth x.1.worth ≡ false → with_key (joined x.1 y.1) ≡ y
  second_alone lower = λ i. (are.key i, joined_lower x.1 y.1 lower i)

  pub first_alone : is_at_most x.1.worth y.1.worth ≡ false → with_key (joined x.1 y.1) ≡ x
  first_alone higher = ap with_key (joined_higher x.1 y.1 higher)

  module _ (one : is_at_most y.1.worth x.1.worth ≡ true) (two : is_at_most x.1.worth y.1.worth ≡ true) where
    pub both_joined : with_key (joined x.1 y.1) ≡ with_key (united x.1 y.1)
    both_joined = ap with_key (joined_equal x.1 y.1 one two)

    pub of_one_row : AreOfOneRow job bends stages x y first second
    of_one_row = record {
      counts = are.counts;
      first_is = are.first_is;
      second_is = are.second_is;
      key = are.key;
      worth = same_worth x.1 y.1 one two;
    }

  -- with one text of notes the first row says it all
  pub first_says : bends ≤ 12 → stages ≤ 6 → first.notes.now ≡ second.notes.now → said_text stages x ≡ said_text stages (x.0, united x.1 y.1)
  first_says few_bends few_stages same =
      sym (said_same stages x.0 x.1 y.1
      (same_reasons job bends stages x y few_bends few_stages are.counts are.first_is.of_job are.second_is.of_job (sym are.first_is.notes ∙ same ∙ are.second_is.notes)))

-- the row that is put says what both say
module _ (job : JobData) (bends stages : ℕ) (few_bends : bends ≤ 12) (few_stages : stages ≤ 6) (done : Rows) (x y : Key × Settled) (first second : RowText) (are : AreOfOneKey job bends stages x y first second) (new : MergedRows) where
  abbrev IsJoinedPut : Type 0
  IsJoinedPut = HoldsRows stages (done ++ (x.0, joined x.1 y.1) ∷ []) new

  -- the second
  pub second_put : (told : Bool) → IsTrue told ↔ IsAtMost second.head.worth first.head.worth → told ≡ false → HoldsRows stages (done ++ y ∷ []) new → IsJoinedPut
  second_put told is lower holds =
      subst (λ (z : Key × Settled). HoldsRows stages (done ++ z ∷ []) new) (sym (second_alone job bends stages x y first second are (second_at_most job bends stages x y first second are told is ∙ lower))) holds

  -- the first
  pub first_put : (told : Bool) → IsTrue told ↔ IsAtMost first.head.worth second.head.worth → told ≡ false → HoldsRows stages (done ++ x ∷ []) new → IsJoinedPut
  first_put told is higher holds =
      subst (λ (z : Key × Settled). HoldsRows stages (done ++ z ∷ []) new) (sym (first_alone job bends stages x y first second are (first_at_most job bends stages x y first second are told is ∙ higher))) holds

  module _ (one two : Bool) (is_one : IsTrue one ↔ IsAtMost second.head.worth first.head.worth) (is_two : IsTrue two ↔ IsAtMost first.head.worth second.head.worth) (most : one ≡ true) where
    -- the notes of both
    pub both_put : two ≡ true → HoldsRows stages (done ++ (x.0, united x.1 y.1) ∷ []) new → IsJoinedPut
    both_put most_too holds =
        subst (λ (z : Key × Settled). HoldsRows stages (done ++ z ∷ []) new)
        (sym (both_joined job bends stages x y first second are (second_at_most job bends stages x y first second are one is_one ∙ most) (first_at_most job bends stages x y first second are two is_two ∙ most_too))) holds

    -- the first, whose notes are those of both
    pub equal_put : (first.notes.now ≡ second.notes.now) → HoldsRows stages (done ++ x ∷ []) new → IsJoinedPut
    equal_put same holds = by_test two refl
      where
        by_test : (t : Bool) → two ≡ t → IsJoinedPut
        by_test false higher = first_put two is_two higher holds
        by_test true most_too = both_put most_too (holds_same stages done x (x.0, united x.1 y.1) new refl (first_says job bends stages x y first second are few_bends few_stages same) holds)

-- at first there is no row
pub none_held : (stages : ℕ) (merged : MergedRows) → merged.heads.items ≡ [] → merged.parts.items ≡ [] → HoldsRows stages [] merged
none_held stages merged no_heads no_parts = record {
  heads_are = no_heads;
  text_is = ap (λ (ps : List Part). parts_text merged.joined.items ps) no_parts;
  within = subst (λ (ps : List Part). All (IsWithin merged.joined.items) ps) (sym no_parts) (All-nil (IsWithin merged.joined.items));
}
