-- What a try of an action owes its calls and gives, in terms of what its table knows.
use Rattle.std.proofs.Common.{◌≡◌, ◌⊎◌, inl, inr, ℕ, ◌<◌, ◌≤◌, false, List}
use Rattle.std.proofs.Common.{Some, arith, refl, sym, ◌∙◌, subst}
use Rattle.std.specs.Prelude.{slice_get}
use Rattle.std.proofs.lemmas.Option.{same_Some}
use Rattle.brake_base.specs.declared.stroke.Key.{Key}
use Rattle.brake_base.specs.declared.stroke.Action.{Action}
use Rattle.brake_base.specs.declared.stroke.Gauge.{Gauge}
use Rattle.brake_base.specs.declared.stroke.Worth.{Worth}
use Rattle.brake_base.specs.declared.stroke.Worth.TheVariants.{Cost, Blocked}
use Rattle.brake_base.specs.Worths.{IsAtMost}
use Rattle.stage_lanes.specs.ActionSets.{has}
use Rattle.job_setup.specs.Setup.{JobData}
use Rattle.job_setup.specs.ValidJob.{IsJob}
use Rattle.handling_cost.specs.StepCost.{IsKeyOf, IsActionAt, left, key_after}
use Rattle.handling_cost.specs.Plan.{IsLegal}
use Rattle.handling_cost.specs.Bound.{bound_of, sum_of}
use Rattle.handling_cost.proofs.Actions.{few_bends, few_left, fewer_left}
use Rattle.handling_cost.proofs.Keys.{next_in_range}
use Rattle.handling_cost.proofs.Small.{total_small}
use Rattle.row_pool.specs.Rows.{Pool}
use Rattle.bb_search.specs.declared.known.KnownActions.{KnownActions}
use Rattle.bb_search.specs.Settling.{IsAttained, IsKnown, IsKnownAfter}
use Rattle.bb_search.specs.KnownActions.{TableData, IsSlack, slack_of, IsFreeWith, AreKnown}
use Rattle.bb_search.specs.KnownActions.{IsFloor, IsToldOf, IsRefusal, IsLearnt, IsChangedAt}
use Rattle.bb_search.specs.OpenRows.{IsSettlingBy, IsKnownSo, HasChanged, IsSameAbove}
use Rattle.bb_search.proofs.TableLemmas.{known_attained, attained_above_bound}
use Rattle.bb_search.proofs.KnownLemmas.{at_set, next_is_of_set}
use Rattle.bb_search.proofs.KnownCalls.{left_at_set, changed_old, changed_new, changed_above}
use Rattle.bb_search.proofs.KnownCalls.{known_learnt, settling_learnt}

-- a change at a set is one of what is known there
pub told_by :
    {IsSo : KnownActions → KnownActions → Type 0} (place : ℕ) (before after : List KnownActions)
    → (changed : IsChangedAt IsSo place before after) → (old new : KnownActions)
    → slice_get before place ≡ Some old → slice_get after place ≡ Some new → IsSo old new
told_by {IsSo} place before after changed old new was is =
    let first = changed_old {IsSo = IsSo} place before after changed old was in
    let here = changed_new {IsSo = IsSo} place before after changed in
    let second = same_Some changed.1 new (sym here ∙ is) in
    subst (λ (k : KnownActions). IsSo k new) first (subst (IsSo changed.0) second changed.4)

-- where the same is known at all sets at which more than a few bends are left, it is at those at
-- which more than many are
pub same_above_more :
    (job : JobData) (before after : TableData) (few many : ℕ) → few < many
    → IsSameAbove job before after few → IsSameAbove job before after many
same_above_more job before after few many less same mask more =
    same mask (omega (arith, less, more))

-- a worth that is attained is far less than what no way on costs
pub few_worth :
    (job : JobData) → IsJob job → (key : Key) → IsKeyOf job key → (worth : Worth)
    → IsAttained job key worth → IsAtMost worth (Cost 500000000) ⊎ (worth ≡ Blocked)
few_worth job is_job key is_key (Cost n) attained =
    let most = total_small job is_job key attained.0 is_key attained.1 in
    let few = few_left job is_job key in
    inl (omega (arith, attained.2, most, few))
few_worth job is_job key is_key Blocked attained = inr refl

module _ (job : JobData) (is_job : IsJob job) (pool : Pool) (key : Key) (table : TableData)
    (known : AreKnown job pool table) (action : Action) (at : IsActionAt job key action)
    (unknown : IsKnownSo table key.mask (λ at. has at.known action ≡ false)) where
  -- of an action that isn't known no reason and no slack is known
  pub blank :
      (here : KnownActions) → slice_get table.known key.mask.0 ≡ Some here
      → (has here.refused action ≡ false) × (slack_of here action ≡ 536870912)
  blank here is =
      (known.each key.mask here is).unknown action (at_set job is_job key action at)
      (unknown here is)

  module _ (after : TableData)
      (changed : IsChangedAt (IsRefusal action) key.mask.0 table.known after.known) where
    refusal :
        (old new : KnownActions) → slice_get table.known key.mask.0 ≡ Some old
        → slice_get after.known key.mask.0 ≡ Some new → IsRefusal action old new
    refusal = told_by {IsSo = IsRefusal action} key.mask.0 table.known after.known changed

    pub refused_told : HasChanged table after key.mask (IsToldOf action)
    refused_told old new was is = (refusal old new was is).told

    -- the slack of a refused action is what no way on costs
    pub refused_slack : IsKnownSo after key.mask (λ at. slack_of at action ≡ 536870912)
    refused_slack new is =
        (refusal changed.0 new changed.2 is).slack ∙ (blank changed.0 changed.2).1

  -- the worth of the key to which the action leads is found
  module _ (in_range : IsKeyOf job key) (next : Key) (next_is : next ≡ key_after job key action)
      (grown : Pool) (mid : TableData) (worth : Worth)
      (found : IsKnownAfter job pool grown next worth) (mid_known : AreKnown job grown mid)
      (same : IsSameAbove job table mid (left job next)) where
    pub less : left job next < left job key
    less = subst (λ (k : Key). left job k < left job key) (sym next_is)
        (fewer_left job (few_bends job is_job) key action at)

    pub next_range : IsKeyOf mid.job next
    next_range = subst (λ (j : JobData). IsKeyOf j next) (sym mid_known.its_job)
        (subst (IsKeyOf job) (sym next_is) (next_in_range job is_job key action in_range at))

    attained : IsAttained job next worth
    attained = known_attained job grown.rows next worth found.sound found.known

    pub next_small : IsAtMost worth (Cost 500000000) ⊎ (worth ≡ Blocked)
    next_small = few_worth job is_job next
        (subst (IsKeyOf job) (sym next_is) (next_in_range job is_job key action in_range at)) worth
        attained

    pub next_bound : IsAtMost (Cost (bound_of mid.job next)) worth
    next_bound = subst (λ (j : JobData). IsAtMost (Cost (bound_of j next)) worth)
        (sym mid_known.its_job) (attained_above_bound job is_job next worth attained)

    -- at the key's own set nothing was told meanwhile
    pub same_here : slice_get mid.known key.mask.0 ≡ slice_get table.known key.mask.0
    same_here = same key.mask (let own = left_at_set job key in let few = less in omega (arith, few, own))

    module _ (after : TableData) (above : ℕ)
        (changed : IsChangedAt (IsLearnt action above) key.mask.0 mid.known after.known) where
      learning :
          (old new : KnownActions) → slice_get mid.known key.mask.0 ≡ Some old
          → slice_get after.known key.mask.0 ≡ Some new → IsLearnt action above old new
      learning = told_by {IsSo = IsLearnt action above} key.mask.0 mid.known after.known changed

      pub learnt_told : HasChanged table after key.mask (IsToldOf action)
      learnt_told old new was is = (learning old new (same_here ∙ was) is).told

      pub learnt_slack : IsKnownSo after key.mask (λ at. slack_of at action ≡ above)
      learnt_slack new is = (learning changed.0 new changed.2 is).slack

      pub learnt_above : IsSameAbove job table after (left job key)
      learnt_above mask more =
          changed_above {IsSo = IsLearnt action above} job key mid after changed mask more
          ∙ same_above_more job table mid (left job next) (left job key) less same mask more

      -- the key is settled by what is known with that
      pub learnt_settling :
          IsKnownSo table key.mask (λ at. IsFloor job key at (sum_of job key action))
          → (before : Pool) → IsSettlingBy job before pool key table
          → IsSettlingBy job before grown key after
      learnt_settling floor before by =
          settling_learnt job is_job before pool key table by action at (unknown by.0 by.1) mid after
          grown worth above
          (subst (λ (k : Key). IsKnownAfter job pool grown k worth) next_is found) same_here changed
          (blank by.0 by.1).0 (floor by.0 by.1)

      module _ (gauge : Gauge)
          (legal : IsLegal job key (record { action = action; gauge = gauge }))
          (slack : IsSlack mid.job next worth above) (small : above ≤ 536870912) where
        free_with : IsFreeWith job grown.rows key.mask action above
        free_with =
            let next_of_set = next_is ∙ next_is_of_set job key action in
            record {
              legal = (
                gauge,
                record {
                  action = at_set job is_job key action at;
                  free = legal.free;
                  gauge = legal.gauge;
                },
              );
              worth = (
                worth,
                subst (λ (k : Key). IsKnown job grown.rows k worth) next_of_set found.known,
                subst (λ (k : Key). IsSlack job k worth above) next_of_set
                    (subst (λ (j : JobData). IsSlack j next worth above) mid_known.its_job slack),
              );
            }

        pub learnt_known : after.job ≡ mid.job → AreKnown job grown after
        learnt_known same_job =
            known_learnt job is_job grown mid after key.mask action above
            (at_set job is_job key action at) mid_known changed same_job
            (λ here is. unknown here (sym same_here ∙ is)) free_with small
