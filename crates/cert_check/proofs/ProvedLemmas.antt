-- What is proved of keys, by lanes and by place.
use Rattle.std.proofs.Common.{◌≡◌, ◌≢◌, inl, inr, ℕ, ◌+◌, ◌*◌, ◌/◌, ◌%◌, ◌<◌, ◌≤◌, Bool, true, false}
use Rattle.std.proofs.Common.{cond, ◌==◌, ◌^◌, List, Some, arith, refl, sym, ◌∙◌, ap, subst, mod-lt}
use Rattle.std.specs.Prelude.{slice_index}
use Rattle.std.proofs.lemmas.Bool.{lt-ltb}
use Rattle.std.proofs.lemmas.Bool.Decides.{eqb_tells}
use Rattle.brake_base.specs.declared.mask.Mask.{Mask}
use Rattle.brake_base.specs.declared.stroke.Key.{Key}
use Rattle.brake_base.specs.declared.stroke.Back.{Back}
use Rattle.brake_base.specs.declared.stroke.Back.TheVariants.{Parent, Child}
use Rattle.brake_base.specs.declared.stroke.Action.{Action}
use Rattle.brake_base.specs.declared.stroke.Worth.{Worth}
use Rattle.brake_base.specs.declared.stroke.Worth.TheVariants.{Cost, Blocked}
use Rattle.brake_base.specs.Masks.{union}
use Rattle.stage_lanes.specs.ActionSets.{side_of}
use Rattle.stage_lanes.specs.Lanes.{AreLanes}
use Rattle.action_lanes.specs.declared.costs.ActionCosts.{ActionCosts}
use Rattle.action_lanes.specs.Costs.{cost_at, AreCosts}
use Rattle.job_setup.specs.Setup.{JobData, bend_count, stage_count}
use Rattle.job_setup.specs.StrokeGroup.{group_of, is_lead}
use Rattle.job_setup.specs.ValidJob.{IsJob}
use Rattle.handling_cost.specs.StepCost.{IsKeyOf, IsActionAt, attitude_at, key_after}
use Rattle.handling_cost.specs.Bound.{bound_of}
use Rattle.handling_cost.proofs.Keys.{some_stage, next_in_range}
use Rattle.cert_lines.specs.declared.row_head.RowHead.{RowHead}
use Rattle.cert_lines.specs.Lines.{IsWorth}
use Rattle.set_facts.specs.LaneFacts.{key_at, HasBounds}
use Rattle.cert_check.specs.RowTable.{IsWorthAt}
use Rattle.cert_check.specs.ProvedCosts.{worth_cost, IsProvedCost, AreProvedLanes, key_behind, HasBendCosts, IsBendPut, AreProvedBelow}
use Rattle.cert_check.proofs.RowLemmas.{next_is}

-- no worth is above that of no way on
pub worth_small : (worth : Worth) → IsWorth worth → worth_cost worth ≤ 2000000000
worth_small (Cost cost) is = omega (arith, is)
worth_small Blocked is = omega arith

pub proved_small : (job : JobData) (rows : List RowHead) (key : Key) (cost : ℕ) → IsProvedCost job rows key cost → cost ≤ 2000000000
proved_small job rows key cost is =
    let value = is.value in
    let small = worth_small is.worth is.ranged in
    omega (arith, value, small)

-- the worth of a key's row is proved of it, and its bound
pub proved_by_row : (job : JobData) (rows : List RowHead) (key : Key) (worth : Worth) → IsWorthAt rows key (Some worth) → IsProvedCost job rows key (worth_cost worth)
proved_by_row job rows key worth at = record { worth = worth; proved = inr at.0; ranged = at.2; value = refl }

pub proved_by_bound : (job : JobData) (rows : List RowHead) (key : Key) (bound : ℕ) → bound ≡ bound_of job key → bound ≤ 18000000 → IsProvedCost job rows key bound
proved_by_bound job rows key bound is small = record {
  worth = Cost (bound_of job key);
  proved = inl refl;
  ranged = let same = is in omega (arith, same, small);
  value = is;
}

-- the bound of a key is that of its set at its stage
pub bound_held : (job : JobData) (mask : Mask) (attitude stage : ℕ) → bound_of job (key_at mask stage) ≡ bound_of job (record { mask = mask; attitude = attitude; stage = stage })
unfolding bound_of
bound_held job mask attitude stage = refl

-- within the stages a lane has its bound
pub bound_lane : (job facts : JobData) (mask : Mask) (stage : ℕ) (lanes : List ℕ) → facts ≡ job → HasBounds facts mask lanes → stage < stage_count job → stage_count job ≤ 8 → slice_index lanes stage ≡ bound_of job (key_at mask stage)
bound_lane job facts mask stage lanes same has low few =
    (subst (λ (j : JobData). HasBounds j mask lanes) same has) stage (omega (arith, low, few))
    ∙ ap (λ (b : Bool). cond b (bound_of job (key_at mask stage)) 536870912) (lt-ltb stage (stage_count job) low)

-- a further lane
pub lanes_on : (job : JobData) (rows : List RowHead) (mask : Mask) (attitude stage cost : ℕ) (before after : List ℕ) → AreProvedLanes job rows mask attitude stage before
    → IsProvedCost job rows (record { mask = mask; attitude = attitude; stage = stage }) cost
    → AreLanes after (λ other. cond (other == stage) cost (slice_index before other)) → stage < 8
    → AreProvedLanes job rows mask attitude (stage + 1) after
lanes_on job rows mask attitude stage cost before after are proved lanes wide = record {
  each = λ other less. elim (eqb_tells other stage) [
    | inl here ↦
        let value : slice_index after other ≡ cost =
        lanes other (let same = here.1 in omega (arith, same, wide)) ∙ ap (λ (b : Bool). cond b cost (slice_index before other)) here.0 in
        subst (λ (n : ℕ). IsProvedCost job rows (record { mask = mask; attitude = attitude; stage = n }) (slice_index after other)) (sym here.1)
        (subst (IsProvedCost job rows (record { mask = mask; attitude = attitude; stage = stage })) (sym value) proved)
    | inr there ↦
        let low : other < stage = let no = there.1 in omega (arith, less, no) in
        let value : slice_index after other ≡ slice_index before other =
        lanes other (omega (arith, low, wide)) ∙ ap (λ (b : Bool). cond b cost (slice_index before other)) there.0 in
        subst (IsProvedCost job rows (record { mask = mask; attitude = attitude; stage = other })) (sym value) (are.each other low)
  ];
  small = λ other within. elim (eqb_tells other stage) [
    | inl here ↦
        let value : slice_index after other ≡ cost = lanes other within ∙ ap (λ (b : Bool). cond b cost (slice_index before other)) here.0 in
        let few = proved_small job rows _ cost proved in
        omega (arith, value, few)
    | inr there ↦
        let value : slice_index after other ≡ slice_index before other = lanes other within ∙ ap (λ (b : Bool). cond b cost (slice_index before other)) there.0 in
        let few = are.small other within in
        omega (arith, value, few)
  ];
}

-- lanes of the set after a stroke, in the attitude of the stroke, are those of the keys behind it
pub lanes_behind : (job : JobData) (rows : List RowHead) (mask after : Mask) (attitude bend : ℕ) (back : Back) (lanes : List ℕ) → after ≡ union mask (group_of job mask bend)
    → ((stage : ℕ) → attitude ≡ attitude_at job mask (record { bend = bend; back = back; stage = stage }))
    → AreProvedLanes job rows after attitude (stage_count job) lanes
    → (stage : ℕ) → stage < stage_count job → IsProvedCost job rows (key_behind job mask bend back stage) (slice_index lanes stage)
lanes_behind job rows mask after attitude bend back lanes masks held are stage low =
    subst (λ (key : Key). IsProvedCost job rows key (slice_index lanes stage))
    (next_is job (key_at mask 0) (record { bend = bend; back = back; stage = stage }) after attitude masks (held stage))
    (are.each stage low)

-- the set after a lead's stroke is one of the job's
pub after_in_range : (job : JobData) → IsJob job → (mask : Mask) → mask.0 < 2 ^ bend_count job → (bend : ℕ) → 1 ≤ bend → bend ≤ bend_count job → is_lead job mask bend ≡ true → (union mask (group_of job mask bend)).0 < 2 ^ bend_count job
unfolding key_after
after_in_range job is_job mask within bend first last lead =
    let some = some_stage job is_job in
    let key : Key = key_at mask 0 in
    let action : Action = record { bend = bend; back = Parent; stage = 0 } in
    let ranged : IsKeyOf job key = record { mask = within; attitude = omega arith; stage = some } in
    let at : IsActionAt job key action = record { first = first; last = last; stage = some; lead = lead } in
    (next_in_range job is_job key action ranged at).mask

test_is : (m n : ℕ) → m ≡ n → (m == n) ≡ true
test_is m n same = elim (eqb_tells m n) [ inl here ↦ here.0 | inr there ↦ absurd (there.1 same) ]

test_not : (m n : ℕ) → m ≢ n → (m == n) ≡ false
test_not m n differ = elim (eqb_tells m n) [ inl here ↦ absurd (differ here.1) | inr there ↦ there.0 ]

module _ (job : JobData) (rows : List RowHead) (mask : Mask) (bend : ℕ) (first : 1 ≤ bend) (last : bend ≤ 12) (few : stage_count job ≤ 8)
    (before one two : ActionCosts) (parent child : List ℕ)
    (parent_is : (stage : ℕ) → stage < stage_count job → IsProvedCost job rows (key_behind job mask bend Parent stage) (slice_index parent stage))
    (child_is : (stage : ℕ) → stage < stage_count job → IsProvedCost job rows (key_behind job mask bend Child stage) (slice_index child stage))
    (parent_small : (stage : ℕ) → stage < 8 → slice_index parent stage ≤ 2000000000)
    (child_small : (stage : ℕ) → stage < 8 → slice_index child stage ≤ 2000000000)
    (one_is : AreCosts one (λ place. cond (place / 8 == side_of bend Parent) (slice_index parent (place % 8)) (cost_at before place)))
    (two_is : AreCosts two (λ place. cond (place / 8 == side_of bend Child) (slice_index child (place % 8)) (cost_at one place))) where
  of_child : (place : ℕ) → place < 192 → place / 8 ≡ side_of bend Child → cost_at two place ≡ slice_index child (place % 8)
  of_child place within side =
      two_is place within ∙ ap (λ (b : Bool). cond b (slice_index child (place % 8)) (cost_at one place)) (test_is (place / 8) (side_of bend Child) side)

  not_child : (place : ℕ) → place < 192 → place / 8 ≢ side_of bend Child → cost_at two place ≡ cost_at one place
  not_child place within side =
      two_is place within ∙ ap (λ (b : Bool). cond b (slice_index child (place % 8)) (cost_at one place)) (test_not (place / 8) (side_of bend Child) side)

  first_parent : (place : ℕ) → place < 192 → place / 8 ≡ side_of bend Parent → cost_at one place ≡ slice_index parent (place % 8)
  first_parent place within side =
      one_is place within ∙ ap (λ (b : Bool). cond b (slice_index parent (place % 8)) (cost_at before place)) (test_is (place / 8) (side_of bend Parent) side)

  of_parent : (place : ℕ) → place < 192 → place / 8 ≡ side_of bend Parent → cost_at two place ≡ slice_index parent (place % 8)
  of_parent place within side = not_child place within (λ same. omega (arith, same, side)) ∙ first_parent place within side

  not_parent : (place : ℕ) → place < 192 → place / 8 ≢ side_of bend Parent → cost_at one place ≡ cost_at before place
  not_parent place within side =
      one_is place within ∙ ap (λ (b : Bool). cond b (slice_index parent (place % 8)) (cost_at before place)) (test_not (place / 8) (side_of bend Parent) side)

  put_at : HasBendCosts job rows mask two bend
  put_at Parent stage low =
      let place : ℕ = 8 * side_of bend Parent + stage in
      let within : place < 192 = omega (arith, low, few, first, last) in
      let side : place / 8 ≡ side_of bend Parent = omega (arith, low, few) in
      let lane : place % 8 ≡ stage = omega (arith, low, few) in
      subst (IsProvedCost job rows (key_behind job mask bend Parent stage)) (sym (of_parent place within side ∙ ap (slice_index parent) lane)) (parent_is stage low)
  put_at Child stage low =
      let place : ℕ = 8 * side_of bend Child + stage in
      let within : place < 192 = omega (arith, low, few, first, last) in
      let side : place / 8 ≡ side_of bend Child = omega (arith, low, few) in
      let lane : place % 8 ≡ stage = omega (arith, low, few) in
      subst (IsProvedCost job rows (key_behind job mask bend Child stage)) (sym (of_child place within side ∙ ap (slice_index child) lane)) (child_is stage low)

  pub bend_put : IsBendPut job rows mask bend before two
  bend_put = record {
    put = put_at;
    others = λ place within other.
        not_child place within (λ same. other (omega (arith, same, first)))
        ∙ not_parent place within (λ same. other (omega (arith, same, first)));
    small = λ fits place within.
        let wide : place % 8 < 8 = mod-lt place (omega arith) in
        elim (eqb_tells (place / 8) (side_of bend Child)) [
          | inl here ↦ let value = of_child place within here.1 in let low = child_small (place % 8) wide in omega (arith, value, low)
          | inr there ↦ elim (eqb_tells (place / 8) (side_of bend Parent)) [
            | inl parents ↦ let value = of_parent place within parents.1 in let low = parent_small (place % 8) wide in omega (arith, value, low)
            | inr others ↦
                let two_same = not_child place within there.1 in
                let one_same = not_parent place within others.1 in
                let low = fits place within in
                omega (arith, two_same, one_same, low)
          ]
        ];
  }

-- before any bend nothing is put
pub none_put : (job : JobData) (rows : List RowHead) (mask : Mask) (costs : ActionCosts) → AreCosts costs (λ place. 0) → AreProvedBelow job rows mask 1 costs
none_put job rows mask costs are = record {
  each = λ lead first low is. absurd (omega (arith, first, low));
  small = λ place within. let value = are place within in omega (arith, value);
}

-- what stands for an earlier lead stays
pub bend_on : (job : JobData) (rows : List RowHead) (mask : Mask) (bend : ℕ) (before after : ActionCosts) → bend ≤ 12 → stage_count job ≤ 8 → AreProvedBelow job rows mask bend before → IsBendPut job rows mask bend before after
    → AreProvedBelow job rows mask (bend + 1) after
bend_on job rows mask bend before after last few below put = record {
  each = λ lead first low is. elim (eqb_tells lead bend) [
    | inl here ↦ subst (HasBendCosts job rows mask after) (sym here.1) put.put
    | inr there ↦ earlier lead first (let no = there.1 in omega (arith, low, no)) is
  ];
  small = put.small below.small;
}
  where
    place_lead : (lead stage : ℕ) → 1 ≤ lead → stage < 8 → (back : Back) → (8 * side_of lead back + stage) / 16 + 1 ≡ lead
    place_lead lead stage first low Parent = omega (arith, first, low)
    place_lead lead stage first low Child = omega (arith, first, low)

    place_within : (lead stage : ℕ) → 1 ≤ lead → lead ≤ 12 → stage < 8 → (back : Back) → 8 * side_of lead back + stage < 192
    place_within lead stage first most low Parent = omega (arith, first, most, low)
    place_within lead stage first most low Child = omega (arith, first, most, low)

    earlier : (lead : ℕ) → 1 ≤ lead → lead < bend → is_lead job mask lead ≡ true → HasBendCosts job rows mask after lead
    earlier lead first low is back stage within =
        let wide : stage < 8 = omega (arith, within, few) in
        let apart : (8 * side_of lead back + stage) / 16 + 1 ≢ bend = λ same. let own = place_lead lead stage first wide back in omega (arith, same, own, low) in
        subst (IsProvedCost job rows (key_behind job mask lead back stage))
        (sym (put.others (8 * side_of lead back + stage) (place_within lead stage first (omega (arith, low, last)) wide back) apart))
        (below.each lead first low is back stage within)

-- a bend that is no lead has no action
pub bend_passed : (job : JobData) (rows : List RowHead) (mask : Mask) (bend : ℕ) (costs : ActionCosts) → AreProvedBelow job rows mask bend costs → is_lead job mask bend ≡ false → AreProvedBelow job rows mask (bend + 1) costs
bend_passed job rows mask bend costs below none = record {
  each = λ lead first low is. elim (eqb_tells lead bend) [
    | inl here ↦ absurd (let same = ap (is_lead job mask) here.1 in cc)
    | inr there ↦ below.each lead first (let no = there.1 in omega (arith, low, no)) is
  ];
  small = below.small;
}
