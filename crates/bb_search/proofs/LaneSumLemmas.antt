-- Sums by lanes and by place.
use Rattle.std.proofs.Common.{◌≡◌, ◌≢◌, inl, inr, ℕ, ◌+◌, ◌/◌, ◌<◌, ◌≤◌, Bool, true, false}
use Rattle.std.proofs.Common.{cond, ◌==◌, List, arith, refl, ◌∙◌, ap}
use Rattle.std.specs.Prelude.{slice_index, nat_lt}
use Rattle.std.proofs.lemmas.Bool.{lt-ltb}
use Rattle.std.proofs.lemmas.Bool.Decides.{eqb_tells}
use Rattle.brake_base.specs.declared.stroke.Key.{Key}
use Rattle.brake_base.specs.declared.stroke.Action.{Action}
use Rattle.brake_base.specs.declared.stroke.Back.{Back}
use Rattle.brake_base.specs.Actions.{number_of_action, IsActionAmong}
use Rattle.brake_base.specs.Masks.{union}
use Rattle.stage_lanes.specs.ActionSets.{side_of, place_of}
use Rattle.stage_lanes.specs.Lanes.{AreLanes}
use Rattle.job_setup.specs.Setup.{JobData, stage_count}
use Rattle.job_setup.specs.StrokeGroup.{group_of}
use Rattle.set_facts.specs.LaneFacts.{key_at, within_stages, HasBounds, HasWays}
use Rattle.handling_cost.specs.StepCost.{attitude_at, key_after, change, change_cost, stage_cost, cost_to}
use Rattle.handling_cost.specs.Bound.{bound_of, sum_of}
use Rattle.bb_search.specs.LaneSums.{AreStillSums, AreSideSums}

pub test_is : (m n : ℕ) → m ≡ n → (m == n) ≡ true
test_is m n same = elim (eqb_tells m n) [ inl here ↦ here.0 | inr there ↦ absurd (there.1 same) ]

pub test_not : (m n : ℕ) → m ≢ n → (m == n) ≡ false
test_not m n differ = elim (eqb_tells m n) [ inl here ↦ absurd (differ here.1) | inr there ↦ there.0 ]

-- the side of an action from its place
pub place_side : (action : Action) → IsActionAmong 12 8 action → place_of action / 8 ≡ side_of action.bend action.back
unfolding number_of_action
place_side action among = omega (arith, among.stage)

-- within the stages a lane has its cost, past them what no way on costs
pub lane_within :
    (job : JobData) (cost : ℕ → ℕ) (stage : ℕ) → stage < stage_count job
    → within_stages job cost stage ≡ cost stage
lane_within job cost stage low =
    ap (λ (b : Bool). cond b (cost stage) 536870912) (lt-ltb stage (stage_count job) low)

pub lane_past :
    (job : JobData) (cost : ℕ → ℕ) (stage : ℕ) → stage_count job ≤ stage
    → within_stages job cost stage ≡ 536870912
lane_past job cost stage high =
    ap (λ (b : Bool). cond b (cost stage) 536870912) (not_below stage (stage_count job) high)
  where
    not_below : (m n : ℕ) → n ≤ m → nat_lt m n ≡ false
    not_below m n le = grind arith

-- the bound of the key after a stroke is that of its set at its stage
pub bound_after :
    (job : JobData) (key : Key) (action : Action)
    → bound_of job (key_after job key action)
    ≡ bound_of job (key_at (union key.mask (group_of job key.mask action.bend)) action.stage)
unfolding key_after bound_of
bound_after job key action = refl

-- a sum by its parts
pub sum_parts :
    (job : JobData) (key : Key) (action : Action)
    → sum_of job key action
    ≡ (job.setup.cost.stroke + stage_cost job key.mask key.stage action.stage
    + bound_of job (key_at (union key.mask (group_of job key.mask action.bend)) action.stage))
    + change_cost job.setup.cost (change key.attitude (attitude_at job key.mask action))
unfolding cost_to
sum_parts job key action = let after = bound_after job key action in omega (arith, after)

-- bounds, ways and the price of a stroke make the sums but for the change of attitude
pub still_sums :
    (job : JobData) (key : Key) (bend stroke : ℕ) (bounds ways paid sums : List ℕ)
    → stroke ≡ job.setup.cost.stroke → stroke ≤ 1000000
    → HasBounds job (union key.mask (group_of job key.mask bend)) bounds
    → ((stage : ℕ) → stage < 8 → slice_index bounds stage ≤ 536870912)
    → HasWays job key.mask key.stage ways
    → ((stage : ℕ) → stage < 8 → slice_index ways stage ≤ 536870912)
    → AreLanes paid (λ stage. slice_index bounds stage + slice_index ways stage)
    → AreLanes sums (λ stage. slice_index paid stage + stroke)
    → stage_count job ≤ 8 → AreStillSums job key bend sums
still_sums job key bend stroke bounds ways paid sums stroke_is few bounds_are bounds_small ways_are ways_small paid_are sums_are stages = record {
  each = λ stage low.
      let wide : stage < 8 = omega (arith, low, stages) in
      let bound = bounds_are stage wide ∙ lane_within job (λ s. bound_of job (key_at (union key.mask (group_of job key.mask bend)) s)) stage low in
      let way = ways_are stage wide ∙ lane_within job (stage_cost job key.mask key.stage) stage low in
      let first = paid_are stage wide in
      let all = sums_are stage wide in
      omega (arith, bound, way, first, all, stroke_is);
  bounds = record {
    past = λ stage high wide.
        let bound = bounds_are stage wide ∙ lane_past job (λ s. bound_of job (key_at (union key.mask (group_of job key.mask bend)) s)) stage high in
        let first = paid_are stage wide in
        let all = sums_are stage wide in
        omega (arith, bound, first, all);
    small = λ stage wide.
        let bound = bounds_small stage wide in
        let way = ways_small stage wide in
        let first = paid_are stage wide in
        let all = sums_are stage wide in
        omega (arith, bound, way, first, all, few);
  };
}

-- with the change of attitude they are the sums
pub side_sums :
    (job : JobData) (key : Key) (bend : ℕ) (back : Back) (attitude paid : ℕ) (still sums : List ℕ)
    → ((stage : ℕ) → attitude
    ≡ attitude_at job key.mask (record { bend = bend; back = back; stage = stage }))
    → paid ≡ change_cost job.setup.cost (change key.attitude attitude) → paid ≤ 1000000
    → AreStillSums job key bend still → AreLanes sums (λ stage. slice_index still stage + paid)
    → stage_count job ≤ 8 → AreSideSums job key bend back sums
side_sums job key bend back attitude paid still sums held paid_is few are sums_are stages = record {
  each = λ stage low.
      let wide : stage < 8 = omega (arith, low, stages) in
      let action : Action = record { bend = bend; back = back; stage = stage } in
      let turn = paid_is ∙ ap (λ (a : ℕ). change_cost job.setup.cost (change key.attitude a)) (held stage) in
      let first = are.each stage low in
      let all = sums_are stage wide in
      let parts = sum_parts job key action in
      omega (arith, turn, first, all, parts);
  bounds = record {
    past = λ stage high wide.
        let first = are.bounds.past stage high wide in
        let all = sums_are stage wide in
        omega (arith, first, all);
    small = λ stage wide.
        let first = are.bounds.small stage wide in
        let all = sums_are stage wide in
        omega (arith, first, all, few);
  };
}
