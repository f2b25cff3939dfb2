-- The places of the sets that were met, and what is known there.
use Rattle.std.proofs.Common.{◌≡◌, ◌≢◌, inl, inr, ℕ, zero, suc, ◌<◌, ◌≤◌, is_some, Option, Some, None, List, [], ◌∷◌, ◌++◌, length, filter, get_or, set, replicate, arith, refl, sym, ◌∙◌, ap, subst}
use Rattle.std.specs.Prelude.{slice_get}
use Rattle.std.proofs.lemmas.Bool.Decides.{eqb_tells}
use Rattle.std.proofs.lemmas.Bool.{cases_lt}
use Rattle.std.specs.Option.{option_map}
use Rattle.std.proofs.lemmas.List.{length-map, length-set, length-replicate, same_lists, get_or-map, get_or-set_same, get_or-set_other, get_or_append_left, get_or_push, get_or_past, get_or_default, length_push}
use Rattle.std.proofs.lemmas.Option.{slice_get-map, slice_get-get_or, same_Some, none-some}
use Rattle.bb_search.specs.declared.known.KnownActions.{KnownActions}
use Rattle.bb_search.specs.KnownActions.{IsChangedAt}
use Rattle.bb_search.specs.KnownSets.{known_at, known_by, HavePlaces}

-- ---- no set was met
abbrev no_place : Option ℕ
no_place = None

none_at : (n k : ℕ) → get_or (replicate n no_place) k None ≡ None
none_at zero k = refl
none_at (suc n) zero = refl
none_at (suc n) (suc k) = none_at n k

none_met : (n : ℕ) → filter is_some (replicate n no_place) ≡ []
none_met zero = refl
none_met (suc n) = none_met n

pub nothing_by : (n : ℕ) (nothing : KnownActions) (met : List KnownActions) → known_by nothing met (replicate n None) ≡ replicate n nothing
nothing_by zero nothing met = refl
nothing_by (suc n) nothing met = ap (λ xs. nothing ∷ xs) (nothing_by n nothing met)

pub places_opened : (n limit : ℕ) → n ≤ 4096 → limit ≡ n → HavePlaces (replicate n None) [] limit
places_opened n limit few memory = record {
  few = let long = length-replicate n no_place in omega (arith, long, few);
  filled = sym (ap length (none_met n));
  memory = memory ∙ sym (length-replicate n no_place);
  within = λ k place at. absurd (none-some place (sym (none_at n k) ∙ at));
  apart = λ k other place at there. absurd (none-some place (sym (none_at n k) ∙ at));
}

-- ---- one set more is met
met_all : (places : List (Option ℕ)) → length (filter is_some places) ≤ length places
met_all [] = omega arith
met_all (None ∷ places) = let rest = met_all places in omega (arith, rest)
met_all (Some place ∷ places) = let rest = met_all places in omega (arith, rest)

met_one : (places : List (Option ℕ)) (k place : ℕ) → k < length places → get_or places k None ≡ None
    → length (filter is_some (set places k (Some place))) ≡ suc (length (filter is_some places))
met_one [] k place within none = absurd (omega (arith, within))
met_one (None ∷ places) zero place within none = refl
met_one (Some first ∷ places) zero place within none = absurd (none-some first (sym none))
met_one (None ∷ places) (suc k) place within none = met_one places k place (omega (arith, within)) none
met_one (Some first ∷ places) (suc k) place within none = ap suc (met_one places k place (omega (arith, within)) none)

module _ (places : List (Option ℕ)) (met : List KnownActions) (limit : ℕ) (have : HavePlaces places met limit) where
  -- there is room for a set that wasn't met
  pub room_left : (k : ℕ) → k < length places → get_or places k None ≡ None → length met < limit
  room_left k within none =
      let one = met_one places k 0 within none in
      let all = met_all (set places k (Some 0)) in
      let same = length-set places k (Some 0) in
      let filled = have.filled in
      let memory = have.memory in
      omega (arith, one, all, same, filled, memory)

  module _ (nothing : KnownActions) (k : ℕ) (inside : k < length places) (none : get_or places k None ≡ None) where
    abbrev places_new : List (Option ℕ)
    places_new = set places k (Some (length met))

    abbrev met_new : List KnownActions
    met_new = met ++ nothing ∷ []

    at_new : get_or places_new k None ≡ Some (length met)
    at_new = get_or-set_same places k (Some (length met)) None inside

    at_old : (other : ℕ) → other ≢ k → get_or places_new other None ≡ get_or places other None
    at_old other differ = get_or-set_other places k other (Some (length met)) None differ

    within : (other place : ℕ) → get_or places_new other None ≡ Some place → place < length met_new
    within other place at =
        let long = length_push met nothing in
        elim (eqb_tells other k) [
          | inl same ↦
              let is : length met ≡ place = same_Some (length met) place (sym at_new ∙ (ap (λ (n : ℕ). get_or places_new n None) (sym same.1) ∙ at)) in
              omega (arith, long, is)
          | inr differ ↦
              let old = have.within other place (sym (at_old other differ.1) ∙ at) in
              omega (arith, long, old)
        ]

    -- an old place isn't the new one
    clash : (other place : ℕ) → other ≢ k → get_or places_new other None ≡ Some place → length met ≡ place → ⊥
    clash other place differ at same =
        let old = have.within other place (sym (at_old other differ) ∙ at) in omega (arith, old, same)

    apart : (one other place : ℕ) → get_or places_new one None ≡ Some place → get_or places_new other None ≡ Some place → one ≡ other
    apart one other place at_one at_other = elim (eqb_tells one k) [
      | inl first ↦
          let is : length met ≡ place = same_Some (length met) place (sym at_new ∙ (ap (λ (n : ℕ). get_or places_new n None) (sym first.1) ∙ at_one)) in
          elim (eqb_tells other k) [
            | inl second ↦ first.1 ∙ sym second.1
            | inr differ ↦ absurd (clash other place differ.1 at_other is)
          ]
      | inr differ ↦ elim (eqb_tells other k) [
        | inl second ↦
            let is : length met ≡ place = same_Some (length met) place (sym at_new ∙ (ap (λ (n : ℕ). get_or places_new n None) (sym second.1) ∙ at_other)) in
            absurd (clash one place differ.1 at_one is)
        | inr neither ↦ have.apart one other place (sym (at_old one differ.1) ∙ at_one) (sym (at_old other neither.1) ∙ at_other)
      ]
    ]

    pub places_met : HavePlaces places_new met_new limit
    places_met = record {
      few = let same = length-set places k (Some (length met)) in let few = have.few in omega (arith, same, few);
      filled =
          let long = length_push met nothing in
          let filled = have.filled in
          let one = met_one places k (length met) inside none in
          omega (arith, long, filled, one);
      memory = have.memory ∙ sym (length-set places k (Some (length met)));
      within = within;
      apart = apart;
    }

    -- at each set the same is known
    kept : (other : ℕ) (found : Option ℕ) → get_or places other None ≡ found → known_at nothing met_new found ≡ known_at nothing met found
    kept other None at = refl
    kept other (Some place) at = get_or_append_left met (nothing ∷ []) nothing place (have.within other place at)

    same_value : (other : ℕ) → known_at nothing met_new (get_or places_new other None) ≡ known_at nothing met (get_or places other None)
    same_value other = elim (eqb_tells other k) [
      | inl same ↦
          ap (λ (n : ℕ). known_at nothing met_new (get_or places_new n None)) same.1
          ∙ (ap (known_at nothing met_new) at_new
          ∙ (get_or_push met nothing nothing (length met) refl
          ∙ sym (ap (λ (n : ℕ). known_at nothing met (get_or places n None)) same.1 ∙ ap (known_at nothing met) none)))
      | inr differ ↦ ap (known_at nothing met_new) (at_old other differ.1) ∙ kept other (get_or places other None) refl
    ]

    pub same_known : known_by nothing met_new places_new ≡ known_by nothing met places
    same_known =
        let long = length-map places (known_at nothing met) in
        let long_new = length-map places_new (known_at nothing met_new) in
        let same = length-set places k (Some (length met)) in
        same_lists (known_by nothing met_new places_new) (known_by nothing met places) (long_new ∙ (same ∙ sym long))
        (λ other d low.
        get_or-map (known_at nothing met_new) places_new other None d (omega (arith, low, long_new))
        ∙ (same_value other ∙ sym (get_or-map (known_at nothing met) places other None d (omega (arith, low, long_new, same)))))

-- ---- what is known at a set
-- what is read at a place of a list
pub read_at : {X : Type 0} (xs : List X) (k i : ℕ) (found d : X) → i ≡ k → k < length xs → found ≡ get_or xs i found → get_or xs k d ≡ found
read_at xs k i found d same low read = ap (λ (n : ℕ). get_or xs n d) (sym same) ∙ sym (read ∙ get_or_default xs i found d (omega (arith, same, low)))

pub set_within : (nothing : KnownActions) (met : List KnownActions) (places : List (Option ℕ)) (all : List KnownActions) (k : ℕ) → known_by nothing met places ≡ all → k < length all → k < length places
set_within nothing met places all k is low = let long = length-map places (known_at nothing met) in let same = ap length is in omega (arith, low, long, same)

-- what is read at a set
pub known_read : (nothing : KnownActions) (met : List KnownActions) (places : List (Option ℕ)) (k : ℕ) (found : Option ℕ) → k < length places → get_or places k None ≡ found
    → slice_get (known_by nothing met places) k ≡ Some (known_at nothing met found)
known_read nothing met places k found inside at =
    slice_get-map (known_at nothing met) places k
    ∙ ap (λ (o : Option (Option ℕ)). option_map (known_at nothing met) o) (slice_get-get_or places k None inside ∙ ap (λ (o : Option ℕ). Some o) at)

-- what is known at one set changes
module _ (places : List (Option ℕ)) (met : List KnownActions) (limit : ℕ) (have : HavePlaces places met limit)
    (nothing : KnownActions) (k place : ℕ) (at : get_or places k None ≡ Some place) (new : KnownActions) where
  abbrev met_set : List KnownActions
  met_set = set met place new

  inside : k < length places
  inside = elim (cases_lt k (length places)) [
    | inl low ↦ low
    | inr past ↦ absurd (none-some place (sym (get_or_past places k None past) ∙ at))
  ]

  pub place_in_met : place < length met
  place_in_met = have.within k place at

  -- what is known at another set stays
  stays : (other : ℕ) (found : Option ℕ) → other ≢ k → get_or places other None ≡ found → known_at nothing met_set found ≡ known_at nothing met found
  stays other None differ at_other = refl
  stays other (Some there) differ at_other =
      get_or-set_other met place there new nothing
      (λ same. differ (have.apart other k place (at_other ∙ ap (λ (n : ℕ). Some n) same) at))

  here : known_at nothing met_set (Some place) ≡ new
  here = get_or-set_same met place new nothing place_in_met

  set_at : (other : ℕ) (d : KnownActions) → other < length places → get_or (known_by nothing met_set places) other d ≡ get_or (set (known_by nothing met places) k new) other d
  set_at other d low =
      let long = length-map places (known_at nothing met) in
      get_or-map (known_at nothing met_set) places other None d low
      ∙ elim (eqb_tells other k) [
        | inl same ↦
            ap (λ (n : ℕ). known_at nothing met_set (get_or places n None)) same.1
            ∙ (ap (known_at nothing met_set) at
            ∙ (here
            ∙ sym (ap (λ (n : ℕ). get_or (set (known_by nothing met places) k new) n d) same.1
            ∙ get_or-set_same (known_by nothing met places) k new d (let low = inside in omega (arith, low, long)))))
        | inr differ ↦
            stays other (get_or places other None) differ.1 refl
            ∙ sym (get_or-set_other (known_by nothing met places) k other new d differ.1 ∙ get_or-map (known_at nothing met) places other None d low)
      ]

  known_set : known_by nothing met_set places ≡ set (known_by nothing met places) k new
  known_set =
      let long = length-map places (known_at nothing met) in
      let long_set = length-map places (known_at nothing met_set) in
      same_lists (known_by nothing met_set places) (set (known_by nothing met places) k new)
      (long_set ∙ sym (length-set (known_by nothing met places) k new ∙ long))
      (λ other d low. set_at other d (omega (arith, low, long_set)))

  pub known_changes : (IsSo : KnownActions → KnownActions → Type 0) (all : List KnownActions) (mask : ℕ) (old : KnownActions) → k ≡ mask
      → known_by nothing met places ≡ all → old ≡ get_or met place old → IsSo old new
      → IsChangedAt IsSo mask all (known_by nothing met_set places)
  known_changes IsSo all mask old same is read so =
      subst (λ (n : ℕ). IsChangedAt IsSo n all (known_by nothing met_set places)) same
      (subst (λ (xs : List KnownActions). IsChangedAt IsSo k xs (known_by nothing met_set places)) is
      (old, new, known_read nothing met places k (Some place) inside at ∙ ap (λ (x : KnownActions). Some x) (read_at met place place old nothing refl place_in_met read), known_set, so))
