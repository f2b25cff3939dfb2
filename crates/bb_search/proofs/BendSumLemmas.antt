-- The sums of a bend's actions at their places.
use Rattle.std.proofs.Common.{◌≡◌, ◌≢◌, inl, inr, ℕ, ◌+◌, ◌/◌, ◌%◌, ◌<◌, ◌≤◌, Bool, true, false}
use Rattle.std.proofs.Common.{cond, ◌==◌, List, arith, sym, ◌∙◌, ap, subst, ◌^◌, mod-lt}
use Rattle.std.specs.Prelude.{slice_index}
use Rattle.std.proofs.lemmas.Bool.{cases_lt}
use Rattle.std.proofs.lemmas.Bool.Decides.{eqb_tells}
use Rattle.brake_base.specs.declared.mask.Mask.{Mask}
use Rattle.brake_base.specs.declared.stroke.Key.{Key}
use Rattle.brake_base.specs.declared.stroke.Action.{Action}
use Rattle.brake_base.specs.declared.stroke.Back.{Back}
use Rattle.brake_base.specs.declared.stroke.Back.TheVariants.{Parent, Child}
use Rattle.brake_base.specs.Masks.{union}
use Rattle.stage_lanes.specs.ActionSets.{side_of, place_of}
use Rattle.action_lanes.specs.declared.costs.ActionCosts.{ActionCosts}
use Rattle.action_lanes.specs.Costs.{cost_at, AreCosts}
use Rattle.job_setup.specs.Setup.{JobData, bend_count}
use Rattle.job_setup.specs.StrokeGroup.{group_of, is_lead}
use Rattle.job_setup.specs.ValidJob.{IsJob}
use Rattle.handling_cost.specs.StepCost.{IsKeyOf, IsActionAt}
use Rattle.handling_cost.specs.Bound.{sum_of}
use Rattle.handling_cost.proofs.Keys.{some_stage, next_in_range}
use Rattle.bb_search.specs.LaneSums.{AreSideSums, AreBendSums, AreSumsBelow}
use Rattle.bb_search.proofs.KnownLemmas.{among_lanes, place_in}
use Rattle.bb_search.proofs.ChoiceLemmas.{place_bend, place_stage}
use Rattle.bb_search.proofs.CallLemmas.{mask_after}
use Rattle.bb_search.proofs.LaneSumLemmas.{test_is, test_not, place_side}

-- the set after a lead's stroke is one of the job's
pub after_in_range :
    (job : JobData) → IsJob job → (key : Key) → IsKeyOf job key → (bend : ℕ) → 1 ≤ bend
    → bend ≤ bend_count job → is_lead job key.mask bend ≡ true
    → (union key.mask (group_of job key.mask bend)).0 < 2 ^ bend_count job
after_in_range job is_job key in_range bend first last lead =
    let action : Action = record { bend = bend; back = Parent; stage = 0 } in
    let at : IsActionAt job key action =
    record { first = first; last = last; stage = some_stage job is_job; lead = lead } in
    subst (λ (m : Mask). m.0 < 2 ^ bend_count job) (mask_after job key action)
    (next_in_range job is_job key action in_range at).mask

module _ (job : JobData) (is_job : IsJob job) (key : Key) (bend : ℕ) (first : 1 ≤ bend)
    (before one two : ActionCosts) (parent child : List ℕ)
    (parent_is : AreSideSums job key bend Parent parent)
    (child_is : AreSideSums job key bend Child child)
    (one_is : AreCosts one (λ place. cond (place / 8 == side_of bend Parent)
    (slice_index parent (place % 8)) (cost_at before place)))
    (two_is : AreCosts two (λ place. cond (place / 8 == side_of bend Child)
    (slice_index child (place % 8)) (cost_at one place))) where
  of_child :
      (place : ℕ) → place < 192 → place / 8 ≡ side_of bend Child
      → cost_at two place ≡ slice_index child (place % 8)
  of_child place within side =
      two_is place within
      ∙ ap (λ (b : Bool). cond b (slice_index child (place % 8)) (cost_at one place))
      (test_is (place / 8) (side_of bend Child) side)

  not_child :
      (place : ℕ) → place < 192 → place / 8 ≢ side_of bend Child
      → cost_at two place ≡ cost_at one place
  not_child place within side =
      two_is place within
      ∙ ap (λ (b : Bool). cond b (slice_index child (place % 8)) (cost_at one place))
      (test_not (place / 8) (side_of bend Child) side)

  of_parent :
      (place : ℕ) → place < 192 → place / 8 ≡ side_of bend Parent
      → cost_at two place ≡ slice_index parent (place % 8)
  of_parent place within side =
      not_child place within (λ same. omega (arith, same, side))
      ∙ (one_is place within
      ∙ ap (λ (b : Bool). cond b (slice_index parent (place % 8)) (cost_at before place))
      (test_is (place / 8) (side_of bend Parent) side))

  of_other :
      (place : ℕ) → place < 192 → place / 16 + 1 ≢ bend
      → cost_at two place ≡ cost_at before place
  of_other place within other =
      not_child place within (λ same. other (omega (arith, same, first)))
      ∙ (one_is place within
      ∙ ap (λ (b : Bool). cond b (slice_index parent (place % 8)) (cost_at before place))
      (test_not (place / 8) (side_of bend Parent) (λ same. other (omega (arith, same, first)))))

  -- a place of the bend has its parent at the back, or its child
  by_side : {P : Type 0} → (place : ℕ) → place / 16 + 1 ≡ bend
      → (place / 8 ≡ side_of bend Parent → P) → (place / 8 ≡ side_of bend Child → P) → P
  by_side place own at_parent at_child = elim (eqb_tells (place / 8) (side_of bend Parent)) [
    | inl same ↦ at_parent same.1
    | inr differ ↦ at_child (side_other (place / 8) (omega (arith, own)) differ.1)
  ]
    where
      side_other : (side : ℕ) → side / 2 + 1 ≡ bend → side ≢ side_of bend Parent → side ≡ side_of bend Child
      side_other side half apart = elim (cases_lt side (side_of bend Parent)) [
        | inl low ↦ absurd (omega (arith, low, half))
        | inr high ↦ elim (cases_lt (side_of bend Parent) side) [
          | inl above ↦ omega (arith, above, half, first)
          | inr below ↦ absurd (apart (omega (arith, high, below)))
        ]
      ]

  each_of :
      (back : Back) (stage : ℕ) → IsActionAt job key (record { bend = bend; back = back; stage = stage })
      → cost_at two (place_of (record { bend = bend; back = back; stage = stage }))
      ≡ sum_of job key (record { bend = bend; back = back; stage = stage })
  each_of Parent stage at =
      let action : Action = record { bend = bend; back = Parent; stage = stage } in
      let among = among_lanes job is_job key action at in
      of_parent (place_of action) (place_in job is_job key action at) (place_side action among)
      ∙ (ap (slice_index parent) (place_stage action among) ∙ parent_is.each stage at.stage)
  each_of Child stage at =
      let action : Action = record { bend = bend; back = Child; stage = stage } in
      let among = among_lanes job is_job key action at in
      of_child (place_of action) (place_in job is_job key action at) (place_side action among)
      ∙ (ap (slice_index child) (place_stage action among) ∙ child_is.each stage at.stage)

  pub bend_sums : AreBendSums job key bend before two
  bend_sums = record {
    each = λ action at same.
        let own : action ≡ record { bend = bend; back = action.back; stage = action.stage } =
        λ i. record { bend = same i; back = action.back; stage = action.stage } in
        let there = subst (λ (a : Action). IsActionAt job key a) own at in
        ap (λ (a : Action). cost_at two (place_of a)) own
        ∙ (each_of action.back action.stage there ∙ ap (sum_of job key) (sym own));
    past = λ place within own high.
        let wide = mod-lt place (omega arith) in
        by_side place own
        (λ side.
        let value = of_parent place within side in
        let low = parent_is.bounds.past (place % 8) high wide in
        omega (arith, value, low))
        (λ side.
        let value = of_child place within side in
        let low = child_is.bounds.past (place % 8) high wide in
        omega (arith, value, low));
    small = λ place within own.
        let wide = mod-lt place (omega arith) in
        by_side place own
        (λ side.
        let value = of_parent place within side in
        let low = parent_is.bounds.small (place % 8) wide in
        omega (arith, value, low))
        (λ side.
        let value = of_child place within side in
        let low = child_is.bounds.small (place % 8) wide in
        omega (arith, value, low));
    others = of_other;
  }

-- a lead's sums are put
pub bend_summed :
    (job : JobData) (key : Key) (bend : ℕ) (before after : ActionCosts)
    → AreSumsBelow job key bend before → AreBendSums job key bend before after → IsJob job
    → AreSumsBelow job key (bend + 1) after
bend_summed job key bend before after below put is_job = record {
  each = λ action at low. elim (eqb_tells action.bend bend) [
    | inl same ↦ put.each action at same.1
    | inr differ ↦
        let among = among_lanes job is_job key action at in
        let other : place_of action / 16 + 1 ≢ bend = λ same. differ.1 (sym (place_bend action among) ∙ same) in
        let less : action.bend < bend = below_other action.bend bend low differ.1 in
        put.others (place_of action) (place_in job is_job key action at) other ∙ below.each action at less
  ];
  past = λ place within high. elim (eqb_tells (place / 16 + 1) bend) [
    | inl same ↦ put.past place within same.1 high
    | inr differ ↦
        let is = put.others place within differ.1 in
        let low = below.past place within high in
        omega (arith, is, low)
  ];
  small = λ place within. elim (eqb_tells (place / 16 + 1) bend) [
    | inl same ↦ put.small place within same.1
    | inr differ ↦
        let is = put.others place within differ.1 in
        let few = below.small place within in
        omega (arith, is, few)
  ];
}
  where
    below_other : (m n : ℕ) → m < n + 1 → m ≢ n → m < n
    below_other m n low differ = elim (cases_lt m n) [
      | inl less ↦ less
      | inr high ↦ absurd (differ (omega (arith, low, high)))
    ]

-- a bend that is no lead has no action
pub bend_skipped :
    (job : JobData) (key : Key) (bend : ℕ) (sums : ActionCosts) → AreSumsBelow job key bend sums
    → is_lead job key.mask bend ≡ false → AreSumsBelow job key (bend + 1) sums
bend_skipped job key bend sums below none = record {
  each = λ action at low. elim (eqb_tells action.bend bend) [
    | inl same ↦ absurd (let lead = at.lead in let is = ap (is_lead job key.mask) same.1 in cc)
    | inr differ ↦ below.each action at (below_other action.bend bend low differ.1)
  ];
  past = below.past;
  small = below.small;
}
  where
    below_other : (m n : ℕ) → m < n + 1 → m ≢ n → m < n
    below_other m n low differ = elim (cases_lt m n) [
      | inl less ↦ less
      | inr high ↦ absurd (differ (omega (arith, low, high)))
    ]
