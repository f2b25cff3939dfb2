-- What a key's worth is by what is known, from the sums and the slacks by place.
use Rattle.std.proofs.Common.{◌≡◌, inl, inr, ℕ, ◌+◌, ◌/◌, ◌%◌, ◌<◌, ◌≤◌}
use Rattle.std.proofs.Common.{true, false, arith, sym, ◌∙◌, ap, subst}
use Rattle.std.specs.Prelude.{◌↔◌, IsTrue}
use Rattle.std.proofs.lemmas.Bool.{cases_lt}
use Rattle.brake_base.specs.declared.mask.Mask.{Mask}
use Rattle.brake_base.specs.declared.stroke.Key.{Key}
use Rattle.brake_base.specs.declared.stroke.Action.{Action}
use Rattle.brake_base.specs.declared.stroke.Back.{Back}
use Rattle.brake_base.specs.declared.stroke.Back.TheVariants.{Parent, Child}
use Rattle.brake_base.specs.Masks.{has as has_bend}
use Rattle.brake_base.specs.Actions.{back_number, number_of_action, IsActionAmong}
use Rattle.stage_lanes.specs.ActionSets.{place_of, has_place}
use Rattle.action_lanes.specs.declared.costs.ActionCosts.{ActionCosts}
use Rattle.action_lanes.specs.Costs.{cost_at, is_of, IsLeastCost}
use Rattle.action_lanes.specs.Tested.{IsTested}
use Rattle.job_setup.specs.Setup.{JobData, bend_count, stage_count}
use Rattle.job_setup.specs.ValidJob.{IsJob}
use Rattle.set_facts.specs.Facts.{AreLeads, HasNoneBeyond}
use Rattle.handling_cost.specs.StepCost.{IsActionAt}
use Rattle.handling_cost.specs.Bound.{sum_of}
use Rattle.row_pool.proofs.NumberLemmas.{action_at, action_among, number_is}
use Rattle.bb_search.specs.declared.known.KnownActions.{KnownActions}
use Rattle.bb_search.specs.declared.settle.Choice.{Choice}
use Rattle.bb_search.specs.LaneSums.{AreSums}
use Rattle.bb_search.specs.Totals.{HaveRoom}
use Rattle.bb_search.specs.KnownActions.{slack_of, IsChoice, HasSmallSlack}
use Rattle.bb_search.proofs.KnownLemmas.{among_lanes, place_in}

back_low : (back : Back) → back_number back < 2
back_low Parent = omega arith
back_low Child = omega arith

-- the bend and the stage of an action from its place
pub place_bend : (action : Action) → IsActionAmong 12 8 action → place_of action / 16 + 1 ≡ action.bend
unfolding number_of_action
place_bend action among = omega (arith, back_low action.back, among.first, among.stage)

pub place_stage : (action : Action) → IsActionAmong 12 8 action → place_of action % 8 ≡ action.stage
unfolding number_of_action
place_stage action among = omega (arith, among.stage)

module _ (job : JobData) (is_job : IsJob job) (key : Key) (leads : Mask)
    (leads_are : AreLeads job key.mask leads) (only : HasNoneBeyond job leads) where
  -- an action at the key is one of a lead
  pub of_lead : (action : Action) → IsActionAt job key action → is_of leads (place_of action) ≡ true
  of_lead action at =
      ap (has_bend leads) (place_bend action (among_lanes job is_job key action at))
      ∙ (leads_are action.bend at.first at.last ∙ at.lead)

  -- a place of a lead at one of the job's stages is that of an action at the key
  pub action_of :
      (place : ℕ) → place < 192 → is_of leads place ≡ true → place % 8 < stage_count job
      → (action : Action) × IsActionAt job key action × (place_of action ≡ place)
  action_of place within lead stage =
      let action = action_at 8 place in
      let among = action_among 8 place within in
      let bend : place / 8 / 2 + 1 ≡ place / 16 + 1 = omega arith in
      let has_lead : has_bend leads (place / 8 / 2 + 1) ≡ true = ap (has_bend leads) bend ∙ lead in
      let last : place / 8 / 2 + 1 ≤ bend_count job = elim (cases_lt (bend_count job) (place / 8 / 2 + 1)) [
        | inl past ↦ absurd (let none = only (place / 8 / 2 + 1) past in cc)
        | inr low ↦ low
      ] in (
        action,
        record {
          first = among.first;
          last = last;
          stage = stage;
          lead = sym (leads_are (place / 8 / 2 + 1) among.first last) ∙ has_lead;
        },
        number_is 8 place,
      )

  module _ (sums costs : ActionCosts) (at : KnownActions) (sums_are : AreSums job key leads sums)
      (cost_is : (place : ℕ) → place < 192
      → cost_at costs place ≡ cost_at sums place + cost_at at.slack place) where
    cost_at_action :
        (action : Action) → IsActionAt job key action
        → cost_at costs (place_of action) ≡ sum_of job key action + slack_of at action
    cost_at_action action here =
        cost_is (place_of action) (place_in job is_job key action here)
        ∙ ap (λ (n : ℕ). n + slack_of at action) (sums_are.each action here)

    -- a place whose sum leaves a way on is that of an action at the key
    action_with :
        (place : ℕ) → place < 192 → is_of leads place ≡ true → cost_at sums place < 536870912
        → (action : Action) × IsActionAt job key action × (place_of action ≡ place)
    action_with place within lead way = elim (cases_lt (place % 8) (stage_count job)) [
      | inl stage ↦ action_of place within lead stage
      | inr past ↦ absurd (let none = sums_are.past place within lead past in omega (arith, way, none))
    ]

    module _ (choice : Choice) (least : IsLeastCost costs leads choice.best)
        (tested : (place : ℕ) → place < 192
        → IsTrue (has_place choice.tested place) ↔ IsTested leads sums costs place)
        (rest : (place : ℕ) → place < 192 → IsTrue (is_of leads place)
        → has_place choice.tested place ≡ false → choice.best ≤ cost_at sums place)
        (most : (place : ℕ) → place < 192 → IsTrue (has_place choice.tested place)
        → cost_at sums place ≤ choice.best) where
      attained_by_action :
          (place : ℕ) → place < 192 → is_of leads place ≡ true
          → cost_at costs place ≡ choice.best → choice.best < 536870912
          → (action : Action) × IsActionAt job key action
          × (sum_of job key action + slack_of at action ≡ choice.best)
      attained_by_action place within lead is_best low =
          let cost = cost_is place within in
          let found = action_with place within lead (omega (arith, cost, is_best, low)) in (
            found.0,
            found.1,
            sym (cost_at_action found.0 found.1) ∙ (ap (cost_at costs) found.2 ∙ is_best),
          )

      pub choice_is : IsChoice job key at choice
      choice_is = record {
        capped = least.capped;
        least = λ action here.
            let low = least.least (place_of action) (place_in job is_job key action here) (of_lead action here) in
            subst (λ (n : ℕ). choice.best ≤ n) (cost_at_action action here) low;
        attained = elim (cases_lt choice.best 536870912) [
          | inl low ↦ elim least.attained [
            | inl none ↦ inl none
            | inr place ↦ inr (attained_by_action place.0 place.1 place.2 place.3 low)
          ]
          | inr high ↦ inl (let capped = least.capped in omega (arith, high, capped))
        ];
        only = λ place within member.
            let is_tested = (tested place within).0 member in
            action_with place within is_tested.bend is_tested.way;
        most = λ action here member.
            subst (λ (n : ℕ). n ≤ choice.best) (sums_are.each action here)
            (most (place_of action) (place_in job is_job key action here) member);
        rest = λ action here absent.
            subst (λ (n : ℕ). choice.best ≤ n) (sums_are.each action here)
            (rest (place_of action) (place_in job is_job key action here) (of_lead action here) absent);
      }

-- the sums and the slacks have room for their totals
pub totals_fit :
    (job : JobData) (key : Key) (leads : Mask) (sums : ActionCosts) (at : KnownActions)
    → AreSums job key leads sums → HasSmallSlack at → HaveRoom sums at.slack
totals_fit job key leads sums at sums_are small place within =
    let sum = sums_are.small place within in
    let slack = small place within in
    omega (arith, sum, slack)
