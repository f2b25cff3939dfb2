-- What the calls of a key's settling owe and give, in terms of what its table knows.
use Rattle.std.proofs.Common.{◌≡◌, ◌≢◌, inl, inr, ℕ, ◌^◌, ◌<◌, ◌≤◌, false, List}
use Rattle.std.proofs.Common.{Some, arith, refl, sym, ◌∙◌, ap, subst}
use Rattle.std.specs.Prelude.{slice_get}
use Rattle.std.proofs.Math.Pow.{pow_mono}
use Rattle.std.proofs.lemmas.List.{length-set}
use Rattle.std.proofs.lemmas.Option.{slice_get_within, slice_get_cases, same_Some, none-some}
use Rattle.brake_base.specs.declared.mask.Mask.{Mask}
use Rattle.brake_base.specs.declared.stroke.Key.{Key}
use Rattle.brake_base.specs.declared.stroke.Action.{Action}
use Rattle.brake_base.specs.declared.stroke.Worth.{Worth}
use Rattle.brake_base.specs.declared.reason.Reason.{Reason}
use Rattle.brake_base.specs.Actions.{number_of_action}
use Rattle.stage_lanes.specs.ActionSets.{has}
use Rattle.job_setup.specs.Setup.{JobData, bend_count, stage_count}
use Rattle.job_setup.specs.ValidJob.{IsJob}
use Rattle.set_facts.specs.LaneFacts.{key_at}
use Rattle.handling_cost.specs.StepCost.{IsActionOf, IsActionAt, left, key_after}
use Rattle.handling_cost.specs.Plan.{IsReasonFor}
use Rattle.handling_cost.specs.Bound.{sum_of}
use Rattle.handling_cost.proofs.Actions.{few_bends, fewer_left}
use Rattle.row_pool.specs.Rows.{Pool, PoolRow, with_common}
use Rattle.bb_search.specs.declared.known.KnownActions.{KnownActions}
use Rattle.bb_search.specs.Settling.{IsSound, OpenAbove, IsKnownAfter}
use Rattle.bb_search.specs.KnownActions.{TableData, IsFreeWith, AreKnown, IsFloor, IsToldOf, IsRefusal, IsLearnt, IsChangedAt}
use Rattle.bb_search.specs.OpenRows.{IsSettlingBy, IsSameAbove}
use Rattle.row_pool.proofs.PoolLemmas.{slice_get-set_same, slice_get-set_other}
use Rattle.bb_search.proofs.KnownLemmas.{pending_kept, floor_kept}
use Rattle.bb_search.proofs.KnownTables.{known_changed, known_with, common_here, told_holds, common_stays, same_mask}
use Rattle.bb_search.proofs.OpenRowLemmas.{settling_told, settling_found}

pub left_at_set : (job : JobData) (key : Key) → left job (key_at key.mask 0) ≡ left job key
unfolding left
left_at_set job key = refl

-- what a table knows at a set of the job's bends
pub known_here : (job : JobData) (pool : Pool) (table : TableData) → AreKnown job pool table → (mask : Mask) → mask.0 < 2 ^ bend_count job → (at : KnownActions) × (slice_get table.known mask.0 ≡ Some at)
known_here job pool table known mask within = elim (slice_get_cases table.known mask.0).1 [
  | inl here ↦ (here.0, here.2)
  | inr past ↦ absurd (let places = known.places in let none = past.0 in omega (arith, within, places, none))
]

-- a reason is told of an action at a set
module _ (job : JobData) (is_job : IsJob job) (pool : Pool) (before after : TableData)
    (mask : Mask) (action : Action) (reason : Reason) (in_range : mask.0 < 2 ^ bend_count job)
    (at : IsActionAt job (key_at mask 0) action) (holds : IsReasonFor job mask action reason)
    (known : AreKnown job pool before) where
  low_mask : mask.0 < 65536
  low_mask = let most : 2 ^ bend_count job ≤ 2 ^ 12 = pow_mono (few_bends job is_job) in omega (arith, in_range, most)

  of_job : IsActionOf job action
  of_job = record { first = at.first; last = at.last; stage = at.stage }

  abbrev refused_pool : Pool
  refused_pool = with_common pool mask (number_of_action (stage_count job) action) reason

  common_known : AreKnown job refused_pool before
  common_known = record {
    its_job = known.its_job;
    places = known.places;
    each = λ other here is.
        let was = known.each other here is in record {
          unknown = was.unknown;
          refused = λ a at_a is_known refused.
              let had = was.refused a at_a is_known refused in (
                common_stays job pool mask action reason of_job (few_bends job is_job) low_mask holds known.actions known.commons known.hold other a had.0,
                had.1,
              );
          free = was.free;
          small = was.small;
        };
    actions = known.actions;
    commons = length-set pool.common _ _ ∙ known.commons;
    hold = told_holds job pool mask action reason of_job (few_bends job is_job) low_mask holds known.actions known.commons known.hold;
  }

  module _ (changed : IsChangedAt (IsRefusal action) mask.0 before.known after.known)
      (same_job : after.job ≡ before.job)
      (unknown : (here : KnownActions) → slice_get before.known mask.0 ≡ Some here
      → has here.known action ≡ false) where
    pub known_refused : AreKnown job refused_pool after
    known_refused =
        let old = changed.0 in
        let new = changed.1 in
        let refusal = changed.4 in
        let was = common_known.each mask old changed.2 in
        let blank = was.unknown action at (unknown old changed.2) in
        known_changed job refused_pool before after mask old new common_known same_job changed.2 changed.3
        (known_with job is_job refused_pool mask action at old new refusal.told was
        (λ refused. (
          λ none. none-some _ (sym none ∙ common_here job pool mask action reason of_job (few_bends job is_job) low_mask holds known.actions known.commons known.hold),
          refusal.slack ∙ blank.1,
        ))
        (λ free. absurd (let is = refusal.refused in cc))
        (let slack = refusal.slack in let is = blank.1 in omega (arith, slack, is)))

-- the slack of an action at a set is learnt
pub known_learnt :
    (job : JobData) (is_job : IsJob job) (pool : Pool) (before after : TableData) (mask : Mask)
    (action : Action) (above : ℕ) → IsActionAt job (key_at mask 0) action
    → AreKnown job pool before
    → IsChangedAt (IsLearnt action above) mask.0 before.known after.known
    → after.job ≡ before.job
    → ((here : KnownActions) → slice_get before.known mask.0 ≡ Some here
    → has here.known action ≡ false)
    → IsFreeWith job pool.rows mask action above → above ≤ 536870912
    → AreKnown job pool after
known_learnt job is_job pool before after mask action above at known changed same_job unknown free small =
    let old = changed.0 in
    let new = changed.1 in
    let learnt = changed.4 in
    let was = known.each mask old changed.2 in
    let blank = was.unknown action at (unknown old changed.2) in
    known_changed job pool before after mask old new known same_job changed.2 changed.3
    (known_with job is_job pool mask action at old new learnt.told was
    (λ refused. absurd (let is = learnt.refused ∙ blank.0 in cc))
    (λ is_free. subst (IsFreeWith job pool.rows mask action) (sym learnt.slack) free)
    (let slack = learnt.slack in omega (arith, slack, small)))

-- what was known before and is known now, where it was changed
pub changed_old :
    {IsSo : KnownActions → KnownActions → Type 0} (place : ℕ) (before after : List KnownActions)
    → (changed : IsChangedAt IsSo place before after) → (at : KnownActions)
    → slice_get before place ≡ Some at → changed.0 ≡ at
changed_old place before after changed at here = same_Some changed.0 at (sym changed.2 ∙ here)

pub changed_new :
    {IsSo : KnownActions → KnownActions → Type 0} (place : ℕ) (before after : List KnownActions)
    → (changed : IsChangedAt IsSo place before after) → slice_get after place ≡ Some changed.1
changed_new place before after changed =
    ap (λ (xs : List KnownActions). slice_get xs place) changed.3
    ∙ slice_get-set_same before place changed.1 (slice_get_within before place changed.0 changed.2)

-- at other sets it is as it was
pub changed_others :
    {IsSo : KnownActions → KnownActions → Type 0} (place other : ℕ) (before after : List KnownActions)
    → IsChangedAt IsSo place before after → other ≢ place
    → slice_get after other ≡ slice_get before other
changed_others place other before after changed differ =
    ap (λ (xs : List KnownActions). slice_get xs other) changed.3
    ∙ slice_get-set_other before place other changed.1 differ

-- a change at the key's set leaves the sets at which more bends are left
pub changed_above :
    {IsSo : KnownActions → KnownActions → Type 0} (job : JobData) (key : Key)
    (before after : TableData) → IsChangedAt IsSo key.mask.0 before.known after.known
    → IsSameAbove job before after (left job key)
changed_above job key before after changed mask more =
    changed_others key.mask.0 mask.0 before.known after.known changed
    (λ same.
    let one : mask ≡ key.mask = same_mask mask key.mask same in
    let is = ap (λ (m : Mask). left job (key_at m 0)) one ∙ left_at_set job key in
    omega (arith, more, is))

module _ (job : JobData) (is_job : IsJob job) (before pool : Pool) (key : Key) (table : TableData)
    (by : IsSettlingBy job before pool key table) (action : Action)
    (at : IsActionAt job key action)
    (unknown : has by.0.known action ≡ false) where
  -- a reason is told of the action
  pub settling_refused :
      (after : TableData) (reason : Reason)
      → IsChangedAt (IsRefusal action) key.mask.0 table.known after.known
      → IsSettlingBy job before (with_common pool key.mask (number_of_action (stage_count job) action) reason) key after
  settling_refused after reason changed =
      let old = changed_old key.mask.0 table.known after.known changed by.0 by.1 in
      let told = subst (λ (k : KnownActions). IsToldOf action k changed.1) old changed.4.told in (
        changed.1,
        changed_new key.mask.0 table.known after.known changed,
        (
          by.2.0,
          settling_told job before pool key by.0 by.2.0 by.2.1 changed.1 _
              (pending_kept job is_job key action at by.0 changed.1 told unknown),
        ),
      )

  -- the worth of the next key is found, and the slack of the action learnt
  pub settling_learnt :
      (mid after : TableData) (grown : Pool) (worth : Worth) (above : ℕ)
      → IsKnownAfter job pool grown (key_after job key action) worth
      → slice_get mid.known key.mask.0 ≡ slice_get table.known key.mask.0
      → IsChangedAt (IsLearnt action above) key.mask.0 mid.known after.known
      → has by.0.refused action ≡ false → IsFloor job key by.0 (sum_of job key action)
      → IsSettlingBy job before grown key after
  settling_learnt mid after grown worth above found same changed free floor =
      let old = changed_old key.mask.0 mid.known after.known changed by.0 (same ∙ by.1) in
      let learnt = subst (λ (k : KnownActions). IsLearnt action above k changed.1) old changed.4 in (
        changed.1,
        changed_new key.mask.0 mid.known after.known changed,
        (
          by.2.0,
          settling_found job before pool key by.0 by.2.0 by.2.1 grown (key_after job key action) worth changed.1 found
              (pending_kept job is_job key action at by.0 changed.1 learnt.told unknown) (
                action,
                at,
                learnt.told.here,
                learnt.refused ∙ free,
                refl,
                floor_kept job is_job key action at by.0 changed.1 learnt.told unknown (sum_of job key action) floor,
              ),
        ),
      )

module _ (job : JobData) (before now : Pool) (key : Key) (table : TableData)
    (by : IsSettlingBy job before now key table) where
  pub settling_sound : IsSound job now.rows
  settling_sound = by.2.1.sound

  -- at the rows without a worth more bends are left than after an action
  pub settling_open : IsJob job → OpenAbove job before.rows (left job key) → (action : Action) → IsActionAt job key action → OpenAbove job now.rows (left job (key_after job key action))
  settling_open is_job above action at i other at_i none =
      let state = by.2.1 in
      let less = fewer_left job (few_bends job is_job) key action at in
      elim (state.others i other at_i) [
        | inl old ↦ let more = above i other old none in omega (arith, more, less)
        | inr (inl here) ↦
            let same : other ≡ by.2.0 = same_Some other by.2.0 (sym (subst (λ (k : ℕ). slice_get now.rows k ≡ Some other) here at_i) ∙ state.here) in
            let its : left job other.key ≡ left job key = ap (left job) (ap (λ (r : PoolRow). r.key) same ∙ state.its) in
            omega (arith, its, less)
        | inr (inr further) ↦ absurd (let some = rw none at further.1.0 in cc)
      ]
