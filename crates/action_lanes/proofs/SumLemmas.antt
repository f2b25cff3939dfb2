-- The sum of two costs of each action, by place.
use Rattle.std.proofs.Common.{◌≡◌, ℕ, ◌+◌, ◌*◌, ◌/◌, ◌%◌, ◌<◌, ◌≤◌, IsTrue, List, [], slice_index, ap, sym, ◌∙◌, arith}
use Rattle.std.proofs.lemmas.List.FromFn.{get_or-map-range_with_len}
use Rattle.brake_base.specs.declared.mask.Mask.{Mask}
use Rattle.stage_lanes.specs.Lanes.{AreLanes}
use Rattle.action_lanes.specs.declared.costs.ActionCosts.{ActionCosts}
use Rattle.action_lanes.specs.Costs.{lanes_at, cost_at, side_sums, sum_costs, is_of}
use Rattle.action_lanes.proofs.CostLemmas.{lane_is}

lanes_of_sum : (one two : ActionCosts) (side : ℕ) → side < 24 → lanes_at (sum_costs one two) side ≡ (side_sums one two side).0
unfolding sum_costs
lanes_of_sum one two side h = ap (λ x. x.0) (get_or-map-range_with_len (side_sums one two) 0 24 side side (record { 0 = [] }) h (omega arith))

-- a lane of a side's sums
pub sum_lane : (one two : ActionCosts) (side stage : ℕ) → side < 24 → stage < 8
    → cost_at (sum_costs one two) (8 * side + stage) ≡ cost_at one (8 * side + stage) + cost_at two (8 * side + stage)
sum_lane one two side stage h low =
    sym (lane_is (sum_costs one two) side stage low)
    ∙ ap (λ (lanes : List ℕ). slice_index lanes stage) (lanes_of_sum one two side h)
    ∙ get_or-map-range_with_len (λ t. cost_at one (8 * side + t) + cost_at two (8 * side + t)) 0 8 stage stage 0 low (omega arith)

pub sum_cost : (one two : ActionCosts) (place : ℕ) → place < 192 → cost_at (sum_costs one two) place ≡ cost_at one place + cost_at two place
sum_cost one two place h =
    let at : 8 * (place / 8) + place % 8 ≡ place = omega arith in
    sym (ap (cost_at (sum_costs one two)) at)
    ∙ sum_lane one two (place / 8) (place % 8) (omega (arith, h)) (omega arith)
    ∙ ap (λ (p : ℕ). cost_at one p + cost_at two p) at

-- the lanes of both make those of the sum
pub lanes_summed : (one two : ActionCosts) (side : ℕ) (first second lanes : List ℕ) → side < 24
    → AreLanes first (λ stage. cost_at one (8 * side + stage)) → AreLanes second (λ stage. cost_at two (8 * side + stage))
    → AreLanes lanes (λ stage. slice_index first stage + slice_index second stage)
    → AreLanes lanes (λ stage. cost_at (sum_costs one two) (8 * side + stage))
lanes_summed one two side first second lanes h p q both stage low =
    let e = p stage low in
    let f = q stage low in
    let g = both stage low in
    let s = sum_lane one two side stage h low in
    omega (arith, e, f, g, s)

-- no sum is below the first of its costs
pub above_first : (leads : Mask) (one two : ActionCosts) → (place : ℕ) → place < 192 → IsTrue (is_of leads place)
    → cost_at one place ≤ cost_at (sum_costs one two) place
above_first leads one two place h its = let e = sum_cost one two place h in omega (arith, e)
