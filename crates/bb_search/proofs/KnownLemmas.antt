-- What is known of a set's actions, and what stays so while more is told.
use Rattle.std.proofs.Common.{◌≡◌, ◌≢◌, inl, inr, ℕ, ◌+◌, ◌-◌, ◌*◌, ◌<◌, true, false, Bool, cond, List}
use Rattle.std.proofs.Common.{arith, refl, sym, ◌∙◌, ap}
use Rattle.std.proofs.lemmas.Nat.{mul-add-lt}
use Rattle.std.proofs.lemmas.Bool.{lt-ltb}
use Rattle.std.specs.Prelude.{slice_index}
use Rattle.std.proofs.lemmas.Bool.Decides.{eqb_tells}
use Rattle.brake_base.specs.declared.mask.Mask.{Mask}
use Rattle.brake_base.specs.declared.stroke.Key.{Key}
use Rattle.brake_base.specs.declared.stroke.Action.{Action}
use Rattle.brake_base.specs.declared.stroke.Back.{Back}
use Rattle.brake_base.specs.declared.stroke.Back.TheVariants.{Parent, Child}
use Rattle.brake_base.specs.Actions.{back_number, number_of_action, IsActionAmong}
use Rattle.brake_base.proofs.Actions.{same_number}
use Rattle.stage_lanes.specs.ActionSets.{place_of, has, has_place}
use Rattle.job_setup.specs.Setup.{JobData, stage_count}
use Rattle.job_setup.specs.ValidJob.{IsJob}
use Rattle.set_facts.specs.LaneFacts.{key_at, HasBounds}
use Rattle.handling_cost.specs.StepCost.{IsKeyOf, IsActionAt, key_after}
use Rattle.handling_cost.specs.Bound.{bound_of, sum_of}
use Rattle.handling_cost.proofs.Actions.{few_bends}
use Rattle.row_pool.specs.Rows.{PoolRow}
use Rattle.bb_search.specs.declared.known.KnownActions.{KnownActions}
use Rattle.bb_search.specs.Table.{Extends}
use Rattle.bb_search.specs.KnownActions.{next_of, IsFreeWith, IsFloor, IsToldOf}
use Rattle.bb_search.specs.OpenRows.{IsPending}
use Rattle.bb_search.proofs.TableLemmas.{known_kept}

back_few : (back : Back) → back_number back < 2
back_few Parent = omega arith
back_few Child = omega arith

pub number_low :
    (stages : ℕ) (action : Action) → IsActionAmong 12 stages action
    → number_of_action stages action < 24 * stages
unfolding number_of_action
number_low stages action among =
    let side : (action.bend - 1) * 2 + back_number action.back < 24 =
    omega (arith, back_few action.back, among.first, among.last) in
    let below =
    mul-add-lt ((action.bend - 1) * 2 + back_number action.back) stages action.stage 24 side
    among.stage in
    omega (arith, below)

pub place_small : (action : Action) → IsActionAmong 12 8 action → place_of action < 192
place_small action among = number_low 8 action among

-- where an action leads depends on the set alone
pub next_is_of_set :
    (job : JobData) (key : Key) (action : Action)
    → key_after job key action ≡ next_of job key.mask action
unfolding key_after
next_is_of_set job key action = refl

module _ (job : JobData) (is_job : IsJob job) (key : Key) where
  pub at_set :
      (action : Action) → IsActionAt job key action → IsActionAt job (key_at key.mask 0) action
  at_set action at = record { first = at.first; last = at.last; stage = at.stage; lead = at.lead }

  pub among_lanes : (action : Action) → IsActionAt job key action → IsActionAmong 12 8 action
  among_lanes action at = record {
    first = at.first;
    last = omega (arith, at.last, few_bends job is_job);
    stage = omega (arith, at.stage, is_job.setup.stages.few_stages);
  }

  pub place_in : (action : Action) → IsActionAt job key action → place_of action < 192
  place_in action at = place_small action (among_lanes action at)

  pub same_place :
      (a b : Action) → IsActionAt job key a → IsActionAt job key b → place_of a ≡ place_of b
      → a ≡ b
  same_place a b at_a at_b same = same_number 8 a b (among_lanes a at_a) (among_lanes b at_b) same

  module _ (action : Action) (at : IsActionAt job key action) (before after : KnownActions)
      (told : IsToldOf action before after) (unknown : has before.known action ≡ false) where
    -- a bound of all that can come of the key's actions stays one
    pub floor_kept : (floor : ℕ) → IsFloor job key before floor → IsFloor job key after floor
    floor_kept floor low = record {
      sums = λ other at_other none. elim (eqb_tells (place_of other) (place_of action)) [
        | inl here ↦
            let known : has after.known other ≡ true =
            ap (λ (p : ℕ). has_place after.known p) here.1 ∙ told.here in
            absurd cc
        | inr there ↦ low.sums other at_other
            (sym (told.known (place_of other) (place_in other at_other) there.1) ∙ none)
      ];
      worths = λ other at_other. elim (eqb_tells (place_of other) (place_of action)) [
        | inl here ↦
            let none : has before.known other ≡ false =
            ap (λ (p : ℕ). has_place before.known p) here.1 ∙ unknown in
            let least = low.sums other at_other none in
            omega (arith, least)
        | inr there ↦
            let same = told.slack (place_of other) (place_in other at_other) there.1 in
            let least = low.worths other at_other in
            omega (arith, least, same)
      ];
    }

    -- what the open row leads to stays so
    pub pending_kept : (next : Key) → IsPending job key before next → IsPending job key after next
    pending_kept next pending =
        let other = pending.0 in
        let at_other = pending.1 in
        let differ : place_of other ≢ place_of action = λ same.
        (let none : has before.known other ≡ false =
        ap (λ (p : ℕ). has_place before.known p) same ∙ unknown in
        let known : has before.known other ≡ true = pending.2 in
        absurd cc) in (
          other,
          at_other,
          told.known (place_of other) (place_in other at_other) differ ∙ pending.2,
          told.refused (place_of other) (place_in other at_other) differ ∙ pending.3,
          pending.4,
          floor_kept (sum_of job key other) pending.5,
        )

-- what an action is free with stays so while rows come
pub free_kept :
    (job : JobData) (before after : List PoolRow) → Extends before after → (mask : Mask)
    (action : Action) (slack : ℕ) → IsFreeWith job before mask action slack
    → IsFreeWith job after mask action slack
free_kept job before after extends mask action slack free = record {
  legal = free.legal;
  worth = (
    free.worth.0,
    known_kept job before after extends (next_of job mask action) free.worth.0 free.worth.1,
    free.worth.2,
  );
}

-- the lane of a key's stage has its bound
pub bound_by_lane :
    (job : JobData) → IsJob job → (key : Key) → IsKeyOf job key → (lanes : List ℕ)
    → HasBounds job key.mask lanes → slice_index lanes key.stage ≡ bound_of job key
unfolding bound_of
bound_by_lane job is_job key in_range lanes bounds =
    bounds key.stage (omega (arith, in_range.stage, is_job.setup.stages.few_stages))
    ∙ ap (λ (b : Bool). cond b (bound_of job (key_at key.mask key.stage)) 536870912)
    (lt-ltb key.stage (stage_count job) in_range.stage)
