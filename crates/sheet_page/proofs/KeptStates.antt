-- What is kept of states, as one more state comes.
use Rattle.std.proofs.Common.{◌≡◌, ◌∙◌, ℕ, ◌+◌, ◌<◌, List, [], ◌∷◌, ◌++◌, Bool, true, false, All, length, map, take, flat_map, append-nil, ap, sym, subst, arith}
use Rattle.std.specs.Prelude.{◌==◌, cond, count_by, Option, Some, None, find}
use Rattle.std.specs.Option.{option_or}
use Rattle.std.proofs.lemmas.Bool.{eqb-true}
use Rattle.std.proofs.lemmas.List.{length_push}
use Rattle.std.proofs.lemmas.List.Concat.{flat_map-append}
use Rattle.std.proofs.lemmas.List.Elements.{All-push, All-nil, All-take, filter-append}
use Rattle.std.proofs.lemmas.List.Folds.{find-append}
use Rattle.std.proofs.lemmas.List.Sums.{sum_by-append}
use Rattle.brake_base.specs.Masks.{bends_of}
use Rattle.job_setup.specs.Setup.{JobData}
use Rattle.plan_lines.specs.declared.note.Note.{Note}
use Rattle.sheet_page.specs.declared.kept.State.{State}
use Rattle.sheet_page.specs.declared.kept.DeadEnds.{DeadEnds}
use Rattle.sheet_page.specs.Kept.{StateData, state_data, IsStateOf, IsFlatState, AreDeadEnds, most_folded, furthest, folded, dead_ends, refusal_count, is_of}
use Rattle.sheet_page.specs.Left.{strokes_left}
use Rattle.sheet_page.proofs.Furthest.{furthest_further, furthest_as_far, furthest_less, most_further, most_kept, seen_more}

module _ (job : JobData) (notes : List Note) (states : List StateData) (state : State) (is : IsStateOf job notes state) where
  abbrev one : StateData
  one = state_data notes state

  -- the states at which every stroke is refused
  module _ (old new : DeadEnds) (are : AreDeadEnds job notes states old) where
    pub only_kept : old.most < length (bends_of state.mask) → new.most ≡ length (bends_of state.mask) → new.count ≡ 1 → new.shown.items ≡ state ∷ [] → AreDeadEnds job notes (states ++ one ∷ []) new
    only_kept less most count shown =
        let more : most_folded states < folded one = let was = are.most in omega (arith, less, was) in
        record {
          most = most ∙ sym (most_further states one more);
          count = count ∙ sym (ap length (furthest_further states one more));
          shown = ap (map (state_data notes)) shown ∙ sym (ap (take 4) (furthest_further states one more));
          tried = subst (All (IsStateOf job notes)) (sym shown) (All-push (IsStateOf job notes) [] state (All-nil (IsStateOf job notes)) is);
        }

    pub push_kept : length (bends_of state.mask) ≡ old.most → new.most ≡ old.most → new.count ≡ old.count + 1 → new.shown.items ≡ take 4 (old.shown.items ++ state ∷ []) → AreDeadEnds job notes (states ++ one ∷ []) new
    push_kept same most count shown =
        let as_far : folded one ≡ most_folded states = same ∙ are.most in
        record {
          most = most ∙ are.most ∙ sym (most_kept states one (omega (arith, as_far)));
          count = count ∙ ap (λ (n : ℕ). n + 1) are.count ∙ sym (ap length (furthest_as_far states one as_far) ∙ length_push (furthest states) one);
          shown = ap (map (state_data notes)) shown ∙ seen_more (state_data notes) 4 old.shown.items state (furthest states) are.shown ∙ sym (ap (take 4) (furthest_as_far states one as_far));
          tried = subst (All (IsStateOf job notes)) (sym shown) (All-take (IsStateOf job notes) 4 (old.shown.items ++ state ∷ []) (All-push (IsStateOf job notes) old.shown.items state are.tried is));
        }

  pub less_kept : (old : DeadEnds) → AreDeadEnds job notes states old → length (bends_of state.mask) < old.most → AreDeadEnds job notes (states ++ one ∷ []) old
  less_kept old are below =
      let less : folded one < most_folded states = let was = are.most in omega (arith, below, was) in
      record {
        most = are.most ∙ sym (most_kept states one (omega (arith, less)));
        count = are.count ∙ sym (ap length (furthest_less states one less));
        shown = are.shown ∙ sym (ap (take 4) (furthest_less states one less));
        tried = are.tried;
      }

  -- the state of the flat blank
  abbrev is_flat : StateData → Bool
  is_flat s = s.mask.0 == 0

  pub flat_kept : (flat : State) → IsFlatState job notes states (Some flat) → IsFlatState job notes (states ++ one ∷ []) (Some flat)
  flat_kept flat are = record {
    found = sym (find-append is_flat states (one ∷ []) ∙ ap (λ (o : Option StateData). option_or o (find is_flat (one ∷ []))) (sym are.found));
    tried = are.tried;
    flat = are.flat;
  }

  found_now : (b : Bool) → IsFlatState job notes states None → (state.mask.0 == 0) ≡ b → find is_flat (states ++ one ∷ []) ≡ cond b (Some one) None
  found_now b are here =
      find-append is_flat states (one ∷ []) ∙ ap (λ (o : Option StateData). option_or o (find is_flat (one ∷ []))) (sym are.found)
      ∙ ap (λ (c : Bool). cond c (Some one) None) here

  pub flat_found : IsFlatState job notes states None → (state.mask.0 == 0) ≡ true → IsFlatState job notes (states ++ one ∷ []) (Some state)
  flat_found are here = record {
    found = sym (found_now true are here);
    tried = is;
    flat = ap (λ (n : ℕ). record { 0 = n }) (eqb-true state.mask.0 0 here);
  }

  pub flat_none : IsFlatState job notes states None → (state.mask.0 == 0) ≡ false → IsFlatState job notes (states ++ one ∷ []) None
  flat_none are here = record { found = sym (found_now false are here); tried = tt; flat = tt }

-- the counts
pub count_more : (job : JobData) (states : List StateData) (s : StateData) (b k : ℕ) → refusal_count job (states ++ s ∷ []) b k ≡ refusal_count job states b k + count_by (is_of job b k) s.notes
count_more job states s b k =
    let before = flat_map (λ (t : StateData). t.notes) states in
    ap (count_by (is_of job b k)) (flat_map-append (λ (t : StateData). t.notes) states (s ∷ []) ∙ ap (λ (t : List Note). before ++ t) (append-nil s.notes))
    ∙ sum_by-append (λ (n : Note). cond (is_of job b k n) 1 0) before s.notes

-- the states at which every stroke is refused
module _ (job : JobData) (states : List StateData) (s : StateData) where
  ends_by : (b : Bool) → (strokes_left job s.mask s.notes == 0) ≡ b → dead_ends job (states ++ s ∷ []) ≡ dead_ends job states ++ cond b (s ∷ []) []
  ends_by b is =
      filter-append (λ (t : StateData). strokes_left job t.mask t.notes == 0) states (s ∷ [])
      ∙ ap (λ (c : Bool). dead_ends job states ++ cond c (s ∷ []) []) is

  pub ends_more : (strokes_left job s.mask s.notes == 0) ≡ true → dead_ends job (states ++ s ∷ []) ≡ dead_ends job states ++ s ∷ []
  ends_more is = ends_by true is

  pub ends_kept : (strokes_left job s.mask s.notes == 0) ≡ false → dead_ends job (states ++ s ∷ []) ≡ dead_ends job states
  ends_kept is = ends_by false is ∙ append-nil (dead_ends job states)
