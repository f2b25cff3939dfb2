-- The actions that a key's settling explores: each may give less than what is known, and what is
-- told of one leaves the others.
use Rattle.std.proofs.Common.{◌≡◌, ◌≢◌, ◌⊎◌, inl, inr, ℕ, ◌+◌, ◌<◌, ◌≤◌, ◌^◌, ◌==◌, ◌&&◌, not, Bool, true, false}
use Rattle.std.proofs.Common.{arith, refl, sym, ◌∙◌, ap, subst}
use Rattle.std.specs.Prelude.{slice_get}
use Rattle.std.proofs.lemmas.Bool.{cases_lt}
use Rattle.std.proofs.lemmas.Bool.Decides.{eqb_tells}
use Rattle.std.proofs.lemmas.Option.{same_Some}
use Rattle.brake_base.specs.declared.mask.Mask.{Mask}
use Rattle.brake_base.specs.declared.stroke.Key.{Key}
use Rattle.brake_base.specs.declared.stroke.Action.{Action}
use Rattle.brake_base.specs.Actions.{IsActionAmong}
use Rattle.brake_base.proofs.Actions.{same_number}
use Rattle.stage_lanes.specs.declared.actions.ActionSet.{ActionSet}
use Rattle.stage_lanes.specs.ActionSets.{place_of, has, has_place, ArePlaces}
use Rattle.action_lanes.specs.declared.costs.ActionCosts.{ActionCosts}
use Rattle.action_lanes.specs.Costs.{cost_at, IsCheapest}
use Rattle.action_lanes.specs.Cheapest.{AreCheapest}
use Rattle.job_setup.specs.Setup.{JobData, bend_count}
use Rattle.job_setup.specs.ValidJob.{IsJob}
use Rattle.handling_cost.specs.StepCost.{IsActionAt}
use Rattle.handling_cost.specs.Bound.{sum_of}
use Rattle.row_pool.specs.Rows.{Pool}
use Rattle.bb_search.specs.declared.known.KnownActions.{KnownActions}
use Rattle.bb_search.specs.LaneSums.{AreSums}
use Rattle.bb_search.specs.Settling.{IsSpent}
use Rattle.bb_search.specs.KnownActions.{TableData, slack_of, AreKnown, AreOpen, IsFloor, IsToldOf}
use Rattle.bb_search.specs.OpenRows.{IsSettlingBy, IsKnownSo, HasChanged, unknown_count}
use Rattle.bb_search.proofs.KnownLemmas.{place_small, among_lanes, place_in, same_place}
use Rattle.bb_search.proofs.KnownCalls.{known_here}
use Rattle.bb_search.proofs.Measures.{told_fewer}

pub first_holds : (a b : Bool) → (a && b) ≡ true → a ≡ true
first_holds true b is = refl
first_holds false b is = absurd cc

pub second_holds : (a b : Bool) → (a && b) ≡ true → b ≡ true
second_holds true b is = is
second_holds false b is = absurd cc

pub both_hold : (a b : Bool) → a ≡ true → b ≡ true → (a && b) ≡ true
both_hold true b first second = second
both_hold false b first second = absurd cc

pub by_false : (b : Bool) → (b ≡ true → ⊥) → b ≡ false
by_false true never = absurd (never refl)
by_false false never = refl

not_same : (m n : ℕ) → m ≡ n → not (m == n) ≡ true → ⊥
not_same m n same is = elim (eqb_tells m n) [
  | inl here ↦ (let fails : not (m == n) ≡ false = ap not here.0 in cc)
  | inr there ↦ there.1 same
]

not_other : (m n : ℕ) → m ≢ n → not (m == n) ≡ true
not_other m n differ = elim (eqb_tells m n) [
  | inl here ↦ absurd (differ here.1)
  | inr there ↦ ap not there.0
]

-- no action can give less than what is below both
abbrev pub IsLeastBelow : JobData → Key → ℕ → ℕ → KnownActions → Type 0
IsLeastBelow job key best limit at =
    (action : Action) → IsActionAt job key action → (n : ℕ) → n ≤ best → n < limit
    → n ≤ sum_of job key action + slack_of at action

module _ (job : JobData) (is_job : IsJob job) (key : Key) (best : ℕ) (at : KnownActions)
    (untested : ActionSet) (open_are : AreOpen job key at best untested) where
  -- an action among them is one at the key
  pub open_at :
      (action : Action) → IsActionAmong 12 8 action → has untested action ≡ true
      → IsActionAt job key action
  open_at action among member =
      let found = open_are.only (place_of action) (place_small action among) member in
      subst (λ (a : Action). IsActionAt job key a)
      (same_number 8 found.0 action (among_lanes job is_job key found.0 found.1) among found.2)
      found.1

  module _ (leads : Mask) (sums : ActionCosts) (sums_are : AreSums job key leads sums) where
    module _ (action : Action) (cheapest : IsCheapest sums untested action) where
      pub cheapest_at : IsActionAt job key action
      cheapest_at = open_at action cheapest.among cheapest.member

      pub cheapest_unknown : has at.known action ≡ false
      cheapest_unknown = open_are.unknown action cheapest_at cheapest.member

      -- the sum of the first is no more than can come of any action
      pub cheapest_floor :
          (limit : ℕ) → cost_at sums (place_of action) < limit → IsLeastBelow job key best limit at
          → IsFloor job key at (sum_of job key action)
      cheapest_floor limit below least =
          let sum = sums_are.each action cheapest_at in
          let most = open_are.most action cheapest_at cheapest.member in
          record {
            sums = λ other at_other unknown. elim (open_are.rest other at_other unknown) [
              | inl member ↦ elim (cases_lt (cost_at sums (place_of other)) (cost_at sums (place_of action))) [
                | inl less ↦ absurd (cheapest.none_earlier (place_of other) (place_in job is_job key other at_other) member (inl less))
                | inr no_less ↦
                    let other_sum = sums_are.each other at_other in
                    omega (arith, sum, other_sum, no_less)
              ]
              | inr high ↦ omega (arith, most, high)
            ];
            worths = λ other at_other.
                least other at_other (sum_of job key action) most
                (subst (λ (n : ℕ). n < limit) sum below);
          }

-- an action is told of and is open no more
module _ (job : JobData) (is_job : IsJob job) (key : Key) (action : Action)
    (at : IsActionAt job key action) (before after : KnownActions)
    (told : IsToldOf action before after) (best : ℕ) where
  module _ (untested later : ActionSet)
      (later_are : ArePlaces later (λ place. has_place untested place && not (place == place_of action))) where
    later_in : (place : ℕ) → place < 192 → has_place later place ≡ true → has_place untested place ≡ true
    later_in place within member =
        first_holds (has_place untested place) (not (place == place_of action))
        (sym (later_are place within) ∙ member)

    later_apart : (place : ℕ) → place < 192 → has_place later place ≡ true → place ≢ place_of action
    later_apart place within member same =
        not_same place (place_of action) same
        (second_holds (has_place untested place) (not (place == place_of action))
        (sym (later_are place within) ∙ member))

    later_stays :
        (place : ℕ) → place < 192 → has_place untested place ≡ true → place ≢ place_of action
        → has_place later place ≡ true
    later_stays place within member differ =
        later_are place within
        ∙ both_hold (has_place untested place) (not (place == place_of action)) member
        (not_other place (place_of action) differ)

    pub later_gone : place_of action < 192 → has_place later (place_of action) ≡ false
    later_gone within = by_false (has_place later (place_of action)) (λ member.
        later_apart (place_of action) within member refl)

    pub later_kept : (place : ℕ) → place < 192 → has_place later place ≡ true → has_place untested place ≡ true
    later_kept place within member = later_in place within member

    pub open_later : AreOpen job key before best untested → AreOpen job key after best later
    open_later open_are = record {
      only = λ place within member. open_are.only place within (later_in place within member);
      unknown = λ other at_other member.
          let within = place_in job is_job key other at_other in
          told.known (place_of other) within (later_apart (place_of other) within member)
          ∙ open_are.unknown other at_other (later_in (place_of other) within member);
      most = λ other at_other member.
          open_are.most other at_other
          (later_in (place_of other) (place_in job is_job key other at_other) member);
      rest = λ other at_other unknown.
          let within = place_in job is_job key other at_other in
          let differ : place_of other ≢ place_of action = λ same.
          (let is : has after.known other ≡ true =
          ap (λ (p : ℕ). has_place after.known p) same ∙ told.here in
          absurd cc) in
          elim (open_are.rest other at_other (sym (told.known (place_of other) within differ) ∙ unknown)) [
            | inl member ↦ inl (later_stays (place_of other) within member differ)
            | inr high ↦ inr high
          ];
    }

  -- nor can any give less than is known now
  pub least_later :
      (limit slack lower : ℕ) → slack_of after action ≡ slack → lower ≤ limit
      → lower ≤ sum_of job key action + slack → IsLeastBelow job key best limit before
      → IsLeastBelow job key best lower after
  least_later limit slack lower is below here least other at_other n low under =
      elim (eqb_tells (place_of other) (place_of action)) [
        | inl same ↦
            let one = same_place job is_job key other action at_other at same.1 in
            subst (λ (a : Action). n ≤ sum_of job key a + slack_of after a) (sym one)
            (omega (arith, is, here, under))
        | inr differ ↦
            let same = told.slack (place_of other) (place_in job is_job key other at_other) differ.1 in
            let was = least other at_other n low (omega (arith, under, below)) in
            omega (arith, was, same)
      ]

-- an action is open no more: those that cost the least are still those that do, if there are any
pub cheapest_later :
    (costs : ActionCosts) (action : Action) (untested cheapest later rest : ActionSet)
    → ArePlaces later (λ place. has_place untested place && not (place == place_of action))
    → ArePlaces rest (λ place. has_place cheapest place && not (place == place_of action))
    → AreCheapest costs untested cheapest → AreCheapest costs later rest
cheapest_later costs action untested cheapest later rest later_are rest_are are = record {
  among = λ place within member.
      let both = sym (rest_are place within) ∙ member in
      later_are place within
      ∙ both_hold (has_place untested place) (not (place == place_of action))
      (are.among place within (first_holds (has_place cheapest place) (not (place == place_of action)) both))
      (second_holds (has_place cheapest place) (not (place == place_of action)) both);
  least = λ place other within inside member its.
      let both = sym (rest_are place within) ∙ member in
      let was = sym (later_are other inside) ∙ its in
      elim (are.least place other within inside
      (first_holds (has_place cheapest place) (not (place == place_of action)) both)
      (first_holds (has_place untested other) (not (other == place_of action)) was)) [
        | inl less ↦ inl less
        | inr same ↦ inr (
          same.0,
          rest_are other inside
              ∙ both_hold (has_place cheapest other) (not (other == place_of action)) same.1
              (second_holds (has_place untested other) (not (other == place_of action)) was),
        )
      ];
}

-- the slack that a table knows is small
pub slack_small :
    (job : JobData) → IsJob job → (pool : Pool) (table : TableData) (key : Key)
    → key.mask.0 < 2 ^ bend_count job → AreKnown job pool table → (action : Action)
    → IsActionAmong 12 8 action → (slack : ℕ)
    → IsKnownSo table key.mask (λ at. slack_of at action ≡ slack) → slack ≤ 536870912
slack_small job is_job pool table key in_range known action among slack is =
    let here = known_here job pool table known key.mask in_range in
    let few = (known.each key.mask here.0 here.1).small (place_of action) (place_small action among) in
    let same = is here.0 here.1 in
    omega (arith, few, same)

-- all rows are used, as seen from an earlier pool of the same settling
pub spent_since :
    (job : JobData) (before first now after : Pool) (key : Key) (old new : TableData)
    → IsSettlingBy job before first key old → IsSettlingBy job before now key new
    → IsSpent job now after → IsSpent job first after
spent_since job before first now after key old new start by spent = record {
  full = spent.full;
  nodes = spent.nodes;
  more = spent.more;
  limit = spent.limit ∙ (by.2.1.limit ∙ sym start.2.1.limit);
  actions = spent.actions ∙ (by.2.1.actions ∙ sym start.2.1.actions);
}

-- one action more is known than at the start
pub fewer_since :
    (job : JobData) (is_job : IsJob job) (pool : Pool) (start before after : TableData) (key : Key)
    → key.mask.0 < 2 ^ bend_count job → AreKnown job pool before → (action : Action)
    → IsActionAmong 12 8 action
    → IsKnownSo before key.mask (λ at. has at.known action ≡ false)
    → HasChanged before after key.mask (IsToldOf action)
    → (before ≡ start)
    ⊎ HasChanged start before key.mask (λ old new. unknown_count new < unknown_count old)
    → HasChanged start after key.mask (λ old new. unknown_count new < unknown_count old)
fewer_since job is_job pool start before after key in_range known action among unknown told since old new at_old at_new =
    let here = known_here job pool before known key.mask in_range in
    let mid = here.0 in
    let less : unknown_count new < unknown_count mid =
    told_fewer action mid new (place_small action among) (told mid new here.1 at_new) (unknown mid here.1) in
    elim since [
      | inl same ↦
          let one : mid ≡ old = same_Some mid old
          (sym here.1 ∙ (ap (λ (t : TableData). slice_get t.known key.mask.0) same ∙ at_old)) in
          let counts = ap unknown_count one in
          omega (arith, less, counts)
      | inr fewer ↦
          let more = fewer old mid at_old here.1 in
          omega (arith, less, more)
    ]
