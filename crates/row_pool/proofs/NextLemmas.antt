-- The next reason of a row.
use Rattle.std.proofs.Common.{◌≡◌, ◌≢◌, ℕ, suc, ◌+◌, ◌*◌, ◌/◌, ◌%◌, ◌<◌, ◌≤◌, Bool, true, false, ◌&&◌, not, nat_lt, List, length, get_or, Option, Some, None, IfNone, if◌then◌else◌, arith, inl, inr, refl, sym, ◌∙◌, ap, true≢false}
use Rattle.std.proofs.lemmas.Bool.{cases_lt, and_parts}
use Rattle.std.specs.Prelude.{slice_get, slice_index_or, option_and_then, is_some}
use Rattle.std.proofs.Math.Nat.{mod-lt, mul-le-mul_left, mul_comm, mul-suc}
use Rattle.std.proofs.lemmas.Nat.{same_from_place, div-add-mod'}
use Rattle.std.proofs.lemmas.Option.{none-some}
use Rattle.brake_base.specs.declared.stroke.Action.{Action}
use Rattle.brake_base.specs.declared.reason.Reason.{Reason}
use Rattle.brake_base.specs.Actions.{IsActionAmong, number_of_action}
use Rattle.stage_lanes.specs.declared.actions.ActionSet.{ActionSet}
use Rattle.stage_lanes.specs.ActionSets.{has_place, place_of, ArePlaces, IsNone, IsFirst}
use Rattle.row_pool.specs.declared.kept_reason.KeptReason.{KeptReason}
use Rattle.row_pool.specs.declared.row.Row.{Row}
use Rattle.row_pool.specs.Index.{Blocks}
use Rattle.row_pool.specs.Notes.{noted_at}
use Rattle.row_pool.specs.Rows.{PoolRow, common_place, place_at}
use Rattle.row_pool.specs.Store.{commons, rows_of, IsStore}
use Rattle.row_pool.proofs.NumberLemmas.{number_order, place_is, place_before, place_from, place_low, stage_is}
use Rattle.row_pool.proofs.RowsOfLemmas.{reason_at-rows_of, reason_past-rows_of, noted, common_is}
use Rattle.row_pool.proofs.StoreLemmas.{yes, no, less, held_at, key_in_range, common_low}

-- the reason that is shown at a row
abbrev pub shown : List PoolRow → ℕ → ℕ → Option Reason
shown rows row number = option_and_then (λ (r : PoolRow). option_and_then (λ (reason : Option Reason). reason) (slice_get r.reasons number)) (slice_get rows row)

-- what holds holds where nothing was found
pub on_none : {A : Type 0} (found : Option A) (P : Type 0) → P → IfNone found P
on_none None P holds = holds
on_none (Some x) P holds = tt

-- a reason that isn't noted isn't shown
unmarked : (t : Bool) → (t && true) ≡ false → t ≡ false
unmarked true e = e
unmarked false e = refl

module _ (rows : List Row) (kept : List KeptReason) (all : ActionSet) (index : Blocks) (rows_limit kept_limit actions : ℕ)
    (store : IsStore rows kept all index rows_limit kept_limit actions) (row : ℕ) (d : Row) (is : d ≡ get_or rows row d) (within : row < length rows) where
  abbrev pub stages : ℕ
  stages = actions / 24

  few : stages ≤ 8
  few = let f = store.few_actions in omega (arith, f)

  in_all : (number : ℕ) → number < actions → number < 24 * stages
  in_all number known = let w = store.whole in omega (arith, w, known)

  -- the reason of an action
  pub shown_is : (number : ℕ) → number < actions → shown (rows_of actions kept rows) row number ≡ noted (λ n. noted_at kept (common_place actions d.key.mask n)) d.notes actions number
  shown_is number known =
      reason_at-rows_of actions kept rows row number d within known
      ∙ ap (λ (r : Row). noted (λ n. noted_at kept (common_place actions r.key.mask n)) r.notes actions number) (sym is)

  pub shown_in : (number : ℕ) → number < actions → has_place d.notes (place_at stages number) ≡ true → shown (rows_of actions kept rows) row number ≡ noted_at kept (common_place actions d.key.mask number)
  shown_in number known its = shown_is number known ∙ ap (λ t. if t then noted_at kept (common_place actions d.key.mask number) else None) its

  pub shown_out : (number : ℕ) → number < actions → has_place d.notes (place_at stages number) ≡ false → shown (rows_of actions kept rows) row number ≡ None
  shown_out number known out = shown_is number known ∙ ap (λ t. if t then noted_at kept (common_place actions d.key.mask number) else None) out

  module _ (number : ℕ) (known : number < actions) (action : Action) (among : IsActionAmong 12 stages action) (its : number_of_action stages action ≡ number) where
    place_of_its : place_at stages number ≡ place_of action
    place_of_its = ap (place_at stages) (sym its) ∙ place_is stages action among

    pub found_in : has_place d.notes (place_of action) ≡ true → noted_at kept (common_place actions d.key.mask number) ≡ shown (rows_of actions kept rows) row number
    found_in e = sym (shown_in number known (ap (has_place d.notes) place_of_its ∙ e))

    pub found_out : has_place d.notes (place_of action) ≡ false → None ≡ shown (rows_of actions kept rows) row number
    found_out e = sym (shown_out number known (ap (has_place d.notes) place_of_its ∙ e))

  module _ (from : Action) (among : IsActionAmong 12 stages from) (earlier rest : ActionSet)
      (before : ArePlaces earlier (λ place. nat_lt place (place_of from)))
      (left : ArePlaces rest (λ place. has_place d.notes place && not (has_place earlier place))) where
    none_at : (number : ℕ) → number < actions → number_of_action stages from ≤ number → has_place rest (place_at stages number) ≡ false
        → shown (rows_of actions kept rows) row number ≡ None
    none_at number known late out =
        let place = place_at stages number in
        let low = place_low stages number few (in_all number known) in
        let order = place_from stages number from few (in_all number known) among late in
        let after : has_place earlier place ≡ false = before place low ∙ sym (no place (place_of from) order) in
        shown_out number known (unmarked (has_place d.notes place) (ap (λ t. has_place d.notes place && not t) (sym after) ∙ (sym (left place low) ∙ out)))

    -- none where nothing is left
    pub none_left : IsNone rest → (number : ℕ) → number_of_action stages from ≤ number → number < actions → shown (rows_of actions kept rows) row number ≡ None
    none_left none number late known = none_at number known late (none (place_at stages number) (place_low stages number few (in_all number known)))

    module _ (first : Action) (is_first : IsFirst rest first) (low : place_of first < 192) where
      parts : (has_place d.notes (place_of first) ≡ true) × (not (has_place earlier (place_of first)) ≡ true)
      parts = and_parts (has_place d.notes (place_of first)) (not (has_place earlier (place_of first))) (sym (left (place_of first) low) ∙ is_first.member)

      pub first_among : IsActionAmong 12 stages first
      first_among =
          let stage = (held_at rows kept all index rows_limit kept_limit actions store row d is within).stages (place_of first) low parts.0 in
          let same = stage_is first is_first.among.stage in
          record { first = is_first.among.first; last = is_first.among.last; stage = omega (arith, stage, same) }

      pub later : number_of_action stages from ≤ number_of_action stages first
      later = number_order stages from first few among first_among (elim (cases_lt (place_of first) (place_of from)) [
        | inl under ↦
            let there : has_place earlier (place_of first) ≡ true = before (place_of first) low ∙ sym (yes (place_of first) (place_of from) under) in
            absurd (true≢false (sym parts.1 ∙ ap not there))
        | inr over ↦ over
      ])

      pub none_before : (number : ℕ) → number_of_action stages from ≤ number → number < number_of_action stages first → number < actions → shown (rows_of actions kept rows) row number ≡ None
      none_before number late early known =
          none_at number known late (is_first.none_before (place_at stages number) (place_before stages number first few (in_all number known) first_among early))

      pub at_first : number_of_action stages first < actions → shown (rows_of actions kept rows) row (number_of_action stages first) ≡ noted_at kept (common_place actions d.key.mask (number_of_action stages first))
      at_first known = shown_in (number_of_action stages first) known (ap (has_place d.notes) (place_is stages first first_among) ∙ parts.0)

      -- it has a common reason
      pub some_there : number_of_action stages first < actions → noted_at kept (common_place actions d.key.mask (number_of_action stages first)) ≢ None
      some_there known = (held_at rows kept all index rows_limit kept_limit actions store row d is within).common (number_of_action stages first) known (ap (has_place d.notes) (place_is stages first first_among) ∙ parts.0)

  -- a row has the reasons of its actions, and no others
  place_back : (place : ℕ) → place % 8 < stages → place_at stages (place / 8 * stages + place % 8) ≡ place
  place_back place low =
      let number = place / 8 * stages + place % 8 in
      let some : 0 < stages = omega (arith, low) in
      let parts = same_from_place (number / stages) (number % stages) (place / 8) (place % 8) stages (mod-lt number some) low (div-add-mod' number stages) in
      (λ i. parts.0 i * 8 + parts.1 i) ∙ div-add-mod' place 8

  number_low : (place : ℕ) → place < 192 → place % 8 < stages → place / 8 * stages + place % 8 < actions
  number_low place below low =
      let whole = store.whole in
      let most : stages * suc (place / 8) ≤ stages * 24 = mul-le-mul_left stages (omega (arith, below)) in
      let spread : stages * suc (place / 8) ≡ place / 8 * stages + stages = mul-suc stages (place / 8) ∙ ap (λ n. n + stages) (mul_comm stages (place / 8)) in
      omega (arith, most, spread, low, whole)

  some_is : {X : Type 0} (x : Option X) → x ≢ None → is_some x ≡ true
  some_is None some = absurd (some refl)
  some_is (Some x) some = refl

  pub notes_are : ArePlaces d.notes (λ place. nat_lt (place % 8) stages && is_some (shown (rows_of actions kept rows) row (place / 8 * stages + place % 8)))
  notes_are place low = by_mark (has_place d.notes place) refl
    where
      number : ℕ
      number = place / 8 * stages + place % 8

      by_stage : has_place d.notes place ≡ false → (t : Bool) → nat_lt (place % 8) stages ≡ t → false ≡ (t && is_some (shown (rows_of actions kept rows) row number))
      by_stage out false e = refl
      by_stage out true e =
          let stage = less (place % 8) stages e in
          sym (ap is_some (shown_out number (number_low place low stage) (ap (has_place d.notes) (place_back place stage) ∙ out)))

      by_mark : (t : Bool) → has_place d.notes place ≡ t → t ≡ (nat_lt (place % 8) stages && is_some (shown (rows_of actions kept rows) row number))
      by_mark true its =
          let held = held_at rows kept all index rows_limit kept_limit actions store row d is within in
          let stage = held.stages place low its in
          let there = ap (has_place d.notes) (place_back place stage) ∙ its in
          let known = number_low place low stage in
          (λ i. yes (place % 8) stages stage i && sym (some_is (shown (rows_of actions kept rows) row number) (λ none. held.common number known there (sym (shown_in number known there) ∙ none))) i)
      by_mark false out = by_stage out (nat_lt (place % 8) stages) refl

  pub shown_common : (number : ℕ) (reason : Reason) → shown (rows_of actions kept rows) row number ≡ Some reason → slice_index_or (commons actions kept) (common_place actions d.key.mask number) None ≡ Some reason
  shown_common number reason its = elim (cases_lt number actions) [
    | inl known ↦ by_mark known (has_place d.notes (place_at stages number)) refl
    | inr past ↦ absurd (none-some reason (sym (reasons_past past) ∙ its))
  ]
    where
      by_mark : number < actions → (t : Bool) → has_place d.notes (place_at stages number) ≡ t → slice_index_or (commons actions kept) (common_place actions d.key.mask number) None ≡ Some reason
      by_mark known true has =
          common_is actions kept (common_place actions d.key.mask number) None (common_low d.key.mask.0 number actions (key_in_range rows kept all index rows_limit kept_limit actions store row d is within) known)
          ∙ (sym (shown_in number known has) ∙ its)
      by_mark known false out = absurd (none-some reason (sym (shown_out number known out) ∙ its))

      reasons_past : actions ≤ number → shown (rows_of actions kept rows) row number ≡ None
      reasons_past past = reason_past-rows_of actions kept rows row number past
