-- A text that goes on with the rows of a pool, and the pieces of a certificate's text.
use Rattle.std.proofs.Common.{◌≡◌, ℕ, ◌<◌, List, [], ◌∷◌, ◌++◌, ◌==◌, not, suc, length, Option, Some, None, Bool, true, false, refl, sym, ap, ◌∙◌, subst, arith, append_assoc, append-nil, true≢false}
use Rattle.std.specs.Prelude.{IfSome, IfNone, codes, is_some}
use Rattle.brake_base.specs.declared.stroke.Step.{Step}
use Rattle.brake_base.specs.declared.stroke.Worth.{Worth}
use Rattle.stage_lanes.specs.ActionSets.{IsNone}
use Rattle.job_setup.specs.Setup.{JobData, stage_count}
use Rattle.row_text.specs.Notes.{SetNotes}
use Rattle.row_pool.specs.Rows.{Pool, IsPool}
use Rattle.row_pool.specs.Order.{IsNextRow, HasNoNext}
use Rattle.bb_search.specs.WrittenRows.{beginning_text, AreWritable, row_text, rest_text, end_text, text_left, CanGoOn, GoesOnTo, AreAllRowsWritten, IsWholeText}
use Rattle.bb_search.proofs.RestTexts.{rest_more, all_left}

pub starts : (pool : Pool) (stages : ℕ) (from : Option ℕ) (text : List ℕ) → IfSome from (λ row. row < length pool.rows) → GoesOnTo pool stages from from text text
starts pool stages from text within = record { piece = []; text = sym (append-nil text); rest = refl; in_range = within }

next_within : (pool : Pool) (row found : Option ℕ) → IfSome found (IsNextRow pool row) → IfSome found (λ r. r < length pool.rows)
next_within pool row None is = tt
next_within pool row (Some next) is = is.within

-- one row more
pub goes_on : (pool : Pool) (is_pool : IsPool pool) (stages : ℕ) (writable : AreWritable stages pool) (few : length pool.rows < 4294967296) (from : Option ℕ) (row : ℕ) (found : Option ℕ) (old middle new : List ℕ) → row < length pool.rows
    → GoesOnTo pool stages from (Some row) old middle → new ≡ middle ++ row_text pool stages row → IfSome found (IsNextRow pool (Some row)) → IfNone found (HasNoNext pool (Some row)) → GoesOnTo pool stages from found old new
goes_on pool is_pool stages writable few from row found old middle new within before told is_next is_none = record {
  piece = before.piece ++ row_text pool stages row;
  text = told ∙ ap (λ (t : List ℕ). t ++ row_text pool stages row) before.text ∙ append_assoc old before.piece (row_text pool stages row);
  rest = before.rest ∙ ap (λ (t : List ℕ). before.piece ++ t) (rest_more pool is_pool stages writable few row within found is_next is_none) ∙ sym (append_assoc before.piece (row_text pool stages row) (rest_text pool stages found));
  in_range = next_within pool (Some row) found is_next;
}

-- ---- what is left of a text
-- a text that has no byte
pub empty_is : (xs : List ℕ) (t : Bool) → t ≡ (length xs == 0) → t ≡ true → xs ≡ []
empty_is [] t is told = refl
empty_is (x ∷ xs) t is told = absurd (true≢false (sym told ∙ is ∙ some (length xs)))
  where
    some : (n : ℕ) → (suc n == 0) ≡ false
    some n = grind arith

pub none_is : (x : Option ℕ) (t : Bool) → t ≡ is_some x → t ≡ false → x ≡ None
none_is None t is told = refl
none_is (Some n) t is told = absurd (true≢false (sym is ∙ told))

pub not_true : (t : Bool) → not t ≡ true → t ≡ false
not_true true is = sym is
not_true false is = refl

pub not_false : (t : Bool) → not t ≡ false → t ≡ true
not_false true is = refl
not_false false is = sym is

module _ (pool : Pool) (stages : ℕ) where
  no_rest : rest_text pool stages None ≡ []
  unfolding rest_text
  no_rest = refl

  -- behind the last line nothing is left
  pub nothing_left : (beginning : List ℕ) (next : Option ℕ) (is_ended : Bool) → beginning ≡ [] → next ≡ None → is_ended ≡ true → text_left beginning pool stages next is_ended ≡ []
  unfolding end_text
  nothing_left beginning next is_ended none last ended = (λ i. (none i ++ rest_text pool stages (last i)) ++ end_text (ended i)) ∙ ap (λ (t : List ℕ). t ++ []) no_rest

  -- the last rows and the last line are given
  pub end_given : (from next : Option ℕ) (is_ended : Bool) (beginning text out new ended : List ℕ) → beginning ≡ [] → GoesOnTo pool stages from next out new → next ≡ None → is_ended ≡ false → text_left beginning pool stages from is_ended ≡ text → ended ≡ new ++ codes "end\n"
      → (piece : List ℕ) × (ended ≡ out ++ piece) × (text ≡ piece ++ text_left beginning pool stages next true)
  unfolding end_text
  end_given from next is_ended beginning text out new ended none gone last opens seen is =
      let line : List ℕ = codes "end\n" in (
        gone.piece ++ line,
        is ∙ ap (λ (t : List ℕ). t ++ line) gone.text ∙ append_assoc out gone.piece line,
        sym seen ∙ (λ i. (none i ++ rest_text pool stages from) ++ end_text (opens i))
            ∙ ap (λ (t : List ℕ). t ++ line) (gone.rest ∙ ap (λ (n : Option ℕ). gone.piece ++ rest_text pool stages n) last ∙ ap (λ (t : List ℕ). gone.piece ++ t) no_rest ∙ append-nil gone.piece)
            ∙ sym (append-nil (gone.piece ++ line)) ∙ ap (λ (t : List ℕ). (gone.piece ++ line) ++ t) (sym (nothing_left beginning next true none last refl)),
      )

-- ---- a text that is opened
module _ (pool : Pool) (is_pool : IsPool pool) (stages : ℕ) (writable : AreWritable stages pool) (few : length pool.rows < 4294967296) (found : Option ℕ) (is_next : IfSome found (IsNextRow pool None)) (is_none : IfNone found (HasNoNext pool None)) where
  -- what it needs to go on
  pub can_go_on : (said : SetNotes) → said.stages ≡ stages → IsNone said.known → CanGoOn pool stages said found
  can_go_on said same none = record {
    is_pool = is_pool;
    few_rows = few;
    writable = writable;
    writer = record { its_stages = same; its_reasons = λ place inside is. absurd (true≢false (sym is ∙ none place inside)) };
    within = next_within pool None found is_next;
  }

  -- all of a certificate's text is left
  pub opened_whole : (job : JobData) (claim : Worth) (steps : List Step) (beginning : List ℕ) → stages ≡ stage_count job → beginning ≡ beginning_text job claim steps → IsWholeText job claim steps pool (text_left beginning pool stages found false)
  unfolding end_text
  opened_whole job claim steps beginning same begins = (
    beginning ++ rest_text pool stages found,
    subst (λ (n : ℕ). AreAllRowsWritten pool n (beginning_text job claim steps) (beginning ++ rest_text pool stages found)) same
        (subst (λ (b : List ℕ). AreAllRowsWritten pool stages b (beginning ++ rest_text pool stages found)) begins (all_left pool is_pool stages writable few found is_next is_none beginning)),
    refl,
  )
