-- What a table knows stays so while rows come, and while reasons and slacks are told.
use Rattle.std.proofs.Common.{◌≡◌, ◌≢◌, inl, inr, ℕ, ◌*◌, ◌^◌, ◌<◌, ◌≤◌, true, false, List}
use Rattle.std.proofs.Common.{length, set, get_or, replicate, zero, suc, Option, Some, None, arith, refl, sym, ◌∙◌, ap, subst}
use Rattle.std.proofs.lemmas.List.{length-set, get_or-set_same, get_or-set_other}
use Rattle.std.proofs.lemmas.Nat.{same_from_place, mul-add-lt}
use Rattle.std.specs.Prelude.{slice_get}
use Rattle.std.proofs.lemmas.Option.{slice_get_within, same_Some, none-some}
use Rattle.std.proofs.lemmas.Bool.Decides.{eqb_tells}
use Rattle.brake_base.specs.declared.mask.Mask.{Mask}
use Rattle.brake_base.specs.declared.stroke.Action.{Action}
use Rattle.brake_base.specs.declared.reason.Reason.{Reason}
use Rattle.brake_base.specs.Actions.{number_of_action}
use Rattle.brake_base.proofs.Actions.{same_number}
use Rattle.std.proofs.lemmas.List.{length-replicate}
use Rattle.stage_lanes.specs.ActionSets.{place_of, has}
use Rattle.job_setup.specs.Setup.{JobData, bend_count, stage_count}
use Rattle.job_setup.specs.ValidJob.{IsJob}
use Rattle.set_facts.specs.LaneFacts.{key_at}
use Rattle.handling_cost.specs.StepCost.{IsActionOf, IsActionAt}
use Rattle.handling_cost.specs.Plan.{IsReasonFor}
use Rattle.row_pool.specs.Rows.{Pool, common_place, common_at, first_reason, with_common, empty_pool, no_common}
use Rattle.row_pool.proofs.PoolLemmas.{slice_get-set_same, slice_get-set_other}
use Rattle.bb_search.specs.declared.known.KnownActions.{KnownActions}
use Rattle.bb_search.specs.Table.{Extends}
use Rattle.bb_search.specs.KnownActions.{TableData, KnowsNothing, slack_of, HasCommon, IsFreeWith, AreKnownAt, CommonHold, AreKnown}
use Rattle.bb_search.specs.KnownActions.{IsToldOf, HasSmallSlack}
use Rattle.bb_search.proofs.KnownLemmas.{number_low, place_in, among_lanes, free_kept}

pub same_mask : (a b : Mask) → a.0 ≡ b.0 → a ≡ b
same_mask a b same i = record { 0 = same i }

-- rows come, and the common reasons stay
pub known_moved :
    (job : JobData) (before after : Pool) (table : TableData) → Extends before.rows after.rows
    → after.common ≡ before.common → after.actions ≡ before.actions → AreKnown job before table
    → AreKnown job after table
known_moved job before after table extends commons actions known =
    let same : (mask : Mask) (number : ℕ) → common_at after mask number ≡ common_at before mask number =
    λ mask number. λ i. get_or (commons i) (common_place (actions i) mask number) None in
    record {
      its_job = known.its_job;
      places = known.places;
      each = λ mask at here.
          let known_at = known.each mask at here in record {
            unknown = known_at.unknown;
            refused = λ action is_action is_known refused.
                let was = known_at.refused action is_action is_known refused in (
                  λ none. was.0 (sym (same mask (number_of_action (stage_count job) action)) ∙ none),
                  was.1,
                );
            free = λ action is_action is_known free.
                free_kept job before.rows after.rows extends mask action (slack_of at action)
                (known_at.free action is_action is_known free);
            small = known_at.small;
          };
      actions = actions ∙ known.actions;
      commons = ap length commons ∙ (known.commons ∙ ap (λ (n : ℕ). 65536 * n) (sym actions));
      hold = λ mask action reason is_action is_common.
          known.hold mask action reason is_action
          (sym (same mask (number_of_action (stage_count job) action)) ∙ is_common);
    }

-- what is known changes at one set
pub known_changed :
    (job : JobData) (pool : Pool) (before after : TableData) (mask : Mask)
    (old new : KnownActions) → AreKnown job pool before → after.job ≡ before.job
    → slice_get before.known mask.0 ≡ Some old → after.known ≡ set before.known mask.0 new
    → AreKnownAt job pool mask new → AreKnown job pool after
known_changed job pool before after mask old new known job_is was is new_known = record {
  its_job = job_is ∙ known.its_job;
  places = ap length is ∙ (length-set before.known mask.0 new ∙ known.places);
  each = λ other at here.
      let stands : slice_get (set before.known mask.0 new) other.0 ≡ Some at =
      sym (ap (λ (xs : List KnownActions). slice_get xs other.0) is) ∙ here in
      elim (eqb_tells other.0 mask.0) [
        | inl same ↦
            let one : other ≡ mask = same_mask other mask same.1 in
            let within = slice_get_within before.known mask.0 old was in
            let value : new ≡ at = same_Some new at
            (sym (slice_get-set_same before.known mask.0 new within)
            ∙ (ap (slice_get (set before.known mask.0 new)) (sym same.1) ∙ stands)) in
            subst (λ (k : KnownActions). AreKnownAt job pool other k) value
            (subst (λ (m : Mask). AreKnownAt job pool m new) (sym one) new_known)
        | inr differ ↦ known.each other at
            (sym (slice_get-set_other before.known mask.0 other.0 new differ.1) ∙ stands)
      ];
  actions = known.actions;
  commons = known.commons;
  hold = known.hold;
}

-- an action is told of: of all others at the set just what was known is known
module _ (job : JobData) (is_job : IsJob job) (pool : Pool) (mask : Mask) (action : Action)
    (at : IsActionAt job (key_at mask 0) action) (before after : KnownActions)
    (told : IsToldOf action before after) (known : AreKnownAt job pool mask before) where
  -- what holds of each action but this one, and of this one
  told_cases :
      {P : Action → Type 0} → P action
      → ((other : Action) → IsActionAt job (key_at mask 0) other → place_of other ≢ place_of action
      → P other)
      → (other : Action) → IsActionAt job (key_at mask 0) other → P other
  told_cases {P} here others other at_other = elim (eqb_tells (place_of other) (place_of action)) [
    | inl same ↦ subst P
        (sym (same_number 8 other action (among_lanes job is_job (key_at mask 0) other at_other)
        (among_lanes job is_job (key_at mask 0) action at) same.1)) here
    | inr differ ↦ others other at_other differ.1
  ]

  other_known : (other : Action) → IsActionAt job (key_at mask 0) other → place_of other ≢ place_of action → has after.known other ≡ has before.known other
  other_known other at_other differ = told.known (place_of other) (place_in job is_job (key_at mask 0) other at_other) differ

  other_refused : (other : Action) → IsActionAt job (key_at mask 0) other → place_of other ≢ place_of action → has after.refused other ≡ has before.refused other
  other_refused other at_other differ = told.refused (place_of other) (place_in job is_job (key_at mask 0) other at_other) differ

  other_slack : (other : Action) → IsActionAt job (key_at mask 0) other → place_of other ≢ place_of action → slack_of after other ≡ slack_of before other
  other_slack other at_other differ = told.slack (place_of other) (place_in job is_job (key_at mask 0) other at_other) differ

  slack_stays : slack_of after action ≤ 536870912 → HasSmallSlack after
  slack_stays small place within = elim (eqb_tells place (place_of action)) [
    | inl same ↦ rw same.1 small
    | inr differ ↦ let is = told.slack place within differ.1 in let few = known.small place within in omega (arith, is, few)
  ]

  -- what is known at the set, where this is known of the action
  pub known_with :
      ((has after.refused action ≡ true) → HasCommon job pool mask action × (slack_of after action ≡ 536870912))
      → ((has after.refused action ≡ false) → IsFreeWith job pool.rows mask action (slack_of after action))
      → slack_of after action ≤ 536870912 → AreKnownAt job pool mask after
  known_with refused free small = record {
    unknown = told_cases {P = λ a. has after.known a ≡ false → (has after.refused a ≡ false) × (slack_of after a ≡ 536870912)}
        (λ none. absurd (let is = told.here in cc))
        (λ other at_other differ none.
        let was = known.unknown other at_other (sym (other_known other at_other differ) ∙ none) in
        (other_refused other at_other differ ∙ was.0, other_slack other at_other differ ∙ was.1));
    refused = told_cases {P = λ a. has after.known a ≡ true → has after.refused a ≡ true → HasCommon job pool mask a × (slack_of after a ≡ 536870912)}
        (λ is_known is_refused. refused is_refused)
        (λ other at_other differ is_known is_refused.
        let was = known.refused other at_other (sym (other_known other at_other differ) ∙ is_known) (sym (other_refused other at_other differ) ∙ is_refused) in
        (was.0, other_slack other at_other differ ∙ was.1));
    free = told_cases {P = λ a. has after.known a ≡ true → has after.refused a ≡ false → IsFreeWith job pool.rows mask a (slack_of after a)}
        (λ is_known is_free. free is_free)
        (λ other at_other differ is_known is_free.
        subst (IsFreeWith job pool.rows mask other) (sym (other_slack other at_other differ))
        (known.free other at_other (sym (other_known other at_other differ) ∙ is_known) (sym (other_refused other at_other differ) ∙ is_free)));
    small = slack_stays small;
  }

-- a reason is told of an action at a set
module _ (job : JobData) (pool : Pool) (mask : Mask) (action : Action) (reason : Reason)
    (is_action : IsActionOf job action) (few : bend_count job ≤ 12) (in_range : mask.0 < 65536)
    (holds : IsReasonFor job mask action reason)
    (actions : pool.actions ≡ 24 * stage_count job)
    (commons : length pool.common ≡ 65536 * pool.actions) (hold : CommonHold job pool) where
  abbrev pub told_pool : Pool
  told_pool = with_common pool mask (number_of_action (stage_count job) action) reason

  number_few : (other : Action) → IsActionOf job other → number_of_action (stage_count job) other < pool.actions
  number_few other is_other = subst (λ (n : ℕ). number_of_action (stage_count job) other < n) (sym actions)
      (number_low (stage_count job) other (record { first = is_other.first; last = omega (arith, is_other.last, few); stage = is_other.stage }))

  place_low : (other : Action) → IsActionOf job other → common_place pool.actions mask (number_of_action (stage_count job) other) < length pool.common
  place_low other is_other = subst (λ (n : ℕ). common_place pool.actions mask (number_of_action (stage_count job) other) < n) (sym commons)
      (let below = mul-add-lt mask.0 pool.actions (number_of_action (stage_count job) other) 65536 in_range (number_few other is_other) in
      omega (arith, below))

  same_action : (other : Action) → IsActionOf job other → number_of_action (stage_count job) other ≡ number_of_action (stage_count job) action → other ≡ action
  same_action other is_other same = same_number (stage_count job) other action
      (record { first = is_other.first; last = omega (arith, is_other.last, few); stage = is_other.stage })
      (record { first = is_action.first; last = omega (arith, is_action.last, few); stage = is_action.stage }) same

  -- at its own place there is a reason now, which holds
  pub common_here : common_at told_pool mask (number_of_action (stage_count job) action) ≡ Some (first_reason (common_at pool mask (number_of_action (stage_count job) action)) reason)
  common_here = get_or-set_same pool.common (common_place pool.actions mask (number_of_action (stage_count job) action)) _ None (place_low action is_action)

  first_holds : IsReasonFor job mask action (first_reason (common_at pool mask (number_of_action (stage_count job) action)) reason)
  first_holds = by_first (common_at pool mask (number_of_action (stage_count job) action)) (hold mask action)
    where
      by_first : (found : Option Reason) → ((r : Reason) → IsActionOf job action → found ≡ Some r → IsReasonFor job mask action r) → IsReasonFor job mask action (first_reason found reason)
      by_first None each = holds
      by_first (Some r) each = each r is_action refl

  -- elsewhere what there was
  common_there : (other : Mask) (number : ℕ) → common_place pool.actions other number ≢ common_place pool.actions mask (number_of_action (stage_count job) action) → common_at told_pool other number ≡ common_at pool other number
  common_there other number differ = get_or-set_other pool.common (common_place pool.actions mask (number_of_action (stage_count job) action)) (common_place pool.actions other number) _ None differ

  pub told_holds : CommonHold job told_pool
  told_holds other a r is_a is_common = elim (eqb_tells (common_place pool.actions other (number_of_action (stage_count job) a)) (common_place pool.actions mask (number_of_action (stage_count job) action))) [
    | inl same ↦
        let parts = same_from_place other.0 (number_of_action (stage_count job) a) mask.0 (number_of_action (stage_count job) action) pool.actions (number_few a is_a) (number_few action is_action) same.1 in
        let one : other ≡ mask = same_mask other mask parts.0 in
        let own : a ≡ action = same_action a is_a parts.1 in
        let value : first_reason (common_at pool mask (number_of_action (stage_count job) action)) reason ≡ r = same_Some _ r
        (sym common_here ∙ (λ i. common_at told_pool (sym one i) (number_of_action (stage_count job) (sym own i))) ∙ is_common) in
        subst (λ (m : Mask). IsReasonFor job m a r) (sym one)
        (subst (λ (b : Action). IsReasonFor job mask b r) (sym own) (subst (IsReasonFor job mask action) value first_holds))
    | inr differ ↦ hold other a r is_a (sym (common_there other (number_of_action (stage_count job) a) differ.1) ∙ is_common)
  ]

  -- a reason that there was stays
  pub common_stays : (other : Mask) (a : Action) → HasCommon job pool other a → HasCommon job told_pool other a
  common_stays other a had none = elim (eqb_tells (common_place pool.actions other (number_of_action (stage_count job) a)) (common_place pool.actions mask (number_of_action (stage_count job) action))) [
    | inl same ↦ none-some _ (sym none ∙ (ap (λ (p : ℕ). get_or told_pool.common p None) same.1 ∙ common_here))
    | inr differ ↦ had (sym (common_there other (number_of_action (stage_count job) a) differ.1) ∙ none)
  ]

-- nothing is known
pub none_known :
    (job : JobData) (mask : Mask) (pool : Pool) (at : KnownActions) → KnowsNothing at → IsJob job
    → AreKnownAt job pool mask at
none_known job mask pool at nothing is_job = record {
  unknown = λ action here is. (
    nothing.refused (place_of action) (place_in job is_job (key_at mask 0) action here),
    nothing.slack (place_of action) (place_in job is_job (key_at mask 0) action here),
  );
  refused = λ action here is refused. absurd (let no = nothing.known (place_of action) (place_in job is_job (key_at mask 0) action here) in cc);
  free = λ action here is refused. absurd (let no = nothing.known (place_of action) (place_in job is_job (key_at mask 0) action here) in cc);
  small = λ place within. let is = nothing.slack place within in omega (arith, is);
}

same_in_replicate : {X : Type 0} (n i : ℕ) (x y : X) → slice_get (replicate n x) i ≡ Some y → x ≡ y
same_in_replicate zero i x y at = absurd cc
same_in_replicate (suc n) zero x y at = same_Some x y at
same_in_replicate (suc n) (suc i) x y at = same_in_replicate n i x y at

none_in_replicate : (n i : ℕ) (reason : Reason) → get_or (replicate n None) i None ≡ Some reason → ⊥
none_in_replicate zero i reason at = absurd cc
none_in_replicate (suc n) zero reason at = absurd cc
none_in_replicate (suc n) (suc i) reason at = none_in_replicate n i reason at

pub none_known_anywhere :
    (job : JobData) → IsJob job → (table : TableData) (at : KnownActions) (limit : ℕ)
    → table.job ≡ job → table.known ≡ replicate (2 ^ bend_count job) at → KnowsNothing at
    → AreKnown job (empty_pool limit (24 * stage_count job)) table
unfolding no_common
none_known_anywhere job is_job table at limit its list nothing = record {
  its_job = its;
  places = ap length list ∙ length-replicate (2 ^ bend_count job) at;
  each = λ mask other here.
      let one : at ≡ other = same_in_replicate (2 ^ bend_count job) mask.0 at other
      (sym (ap (λ (xs : List KnownActions). slice_get xs mask.0) list) ∙ here) in
      subst (λ (k : KnownActions). AreKnownAt job (empty_pool limit (24 * stage_count job)) mask k) one
      (none_known job mask (empty_pool limit (24 * stage_count job)) at nothing is_job);
  actions = refl;
  commons = length-replicate (65536 * (24 * stage_count job)) None;
  hold = λ mask action reason is_action is_common. absurd
      (none_in_replicate (65536 * (24 * stage_count job))
      (common_place (24 * stage_count job) mask (number_of_action (stage_count job) action)) reason is_common);
}
