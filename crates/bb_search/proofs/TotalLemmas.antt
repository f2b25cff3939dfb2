-- The totals of a key's actions, by place and by side.
use Rattle.std.proofs.Common.{◌≡◌, ℕ, ◌+◌, ◌-◌, ◌*◌, ◌/◌, ◌<◌, ◌≤◌, ◌==◌, ◌&&◌, Bool, true, false, nat_lt, min, IsTrue, List}
use Rattle.std.proofs.Common.{slice_index, true≢false, arith, ap, sym, subst, ◌∙◌}
use Rattle.std.specs.Prelude.{not}
use Rattle.std.proofs.lemmas.Bool.{and_parts, false_from_ne_true}
use Rattle.brake_base.specs.declared.mask.Mask.{Mask}
use Rattle.brake_base.specs.declared.stroke.Back.{Back}
use Rattle.brake_base.specs.declared.stroke.Back.TheVariants.{Parent, Child}
use Rattle.brake_base.specs.Masks.{has}
use Rattle.brake_base.specs.Actions.{back_number}
use Rattle.stage_lanes.specs.declared.stages.StageSet.{StageSet}
use Rattle.stage_lanes.specs.Lanes.{AreLanes}
use Rattle.stage_lanes.specs.Stages.{has as has_stage, AreStages}
use Rattle.stage_lanes.specs.ActionSets.{side_of}
use Rattle.action_lanes.specs.declared.costs.ActionCosts.{ActionCosts}
use Rattle.action_lanes.specs.Costs.{cost_at, sum_costs}
use Rattle.action_lanes.proofs.CostLemmas.{AreLow, side_taken, side_skipped}
use Rattle.action_lanes.proofs.TestedLemmas.{less, equal_is}
use Rattle.bb_search.specs.Totals.{NoneGivesBelow}

back_low : (back : Back) → back_number back < 2
back_low Parent = omega arith
back_low Child = omega arith

pub side_low : (bend : ℕ) (back : Back) → 1 ≤ bend → bend ≤ 12 → side_of bend back < 24
side_low bend back first last = let low = back_low back in omega (arith, low, first, last)

pub not_both : (b : Bool) → IsTrue (not b) → IsTrue b → ⊥
not_both true denied held = true≢false (sym denied)
not_both false denied held = true≢false (sym held)

-- both sides of a bend are among the least
pub bend_taken :
    (bends : Mask) (costs : ActionCosts) (bend : ℕ) (low parent between child next : List ℕ)
    → 1 ≤ bend → bend ≤ 12 → has bends bend ≡ true
    → AreLanes parent (λ stage. cost_at costs (8 * side_of bend Parent + stage))
    → AreLanes between (λ stage. min (slice_index low stage) (slice_index parent stage))
    → AreLanes child (λ stage. cost_at costs (8 * side_of bend Child + stage))
    → AreLanes next (λ stage. min (slice_index between stage) (slice_index child stage))
    → AreLow bends costs (2 * (bend - 1)) low → AreLow bends costs (2 * (bend + 1 - 1)) next
bend_taken bends costs bend low parent between child next first last its parents lesser children least before =
    let side = 2 * (bend - 1) in
    let is_parent : side_of bend Parent ≡ side = omega arith in
    let is_child : side_of bend Child ≡ side + 1 = omega arith in
    let of_parent : side / 2 + 1 ≡ bend = omega (arith, first) in
    let of_child : (side + 1) / 2 + 1 ≡ bend = omega (arith, first) in
    let ends : side + 1 + 1 ≡ 2 * (bend + 1 - 1) = omega (arith, first) in
    let half = side_taken bends costs side low between parent (omega (arith, last)) (ap (has bends) of_parent ∙ its)
    (λ stage wide. parents stage wide ∙ ap (λ (s : ℕ). cost_at costs (8 * s + stage)) is_parent) lesser before in
    let whole = side_taken bends costs (side + 1) between next child (omega (arith, last)) (ap (has bends) of_child ∙ its)
    (λ stage wide. children stage wide ∙ ap (λ (s : ℕ). cost_at costs (8 * s + stage)) is_child) least half in
    subst (λ (sides : ℕ). AreLow bends costs sides next) ends whole

-- a bend that isn't one of them is passed over
pub bend_passed :
    (bends : Mask) (costs : ActionCosts) (bend : ℕ) (low : List ℕ) → 1 ≤ bend → has bends bend ≡ false
    → AreLow bends costs (2 * (bend - 1)) low → AreLow bends costs (2 * (bend + 1 - 1)) low
bend_passed bends costs bend low first its before =
    let side = 2 * (bend - 1) in
    let of_parent : side / 2 + 1 ≡ bend = omega (arith, first) in
    let of_child : (side + 1) / 2 + 1 ≡ bend = omega (arith, first) in
    let ends : side + 1 + 1 ≡ 2 * (bend + 1 - 1) = omega (arith, first) in
    subst (λ (sides : ℕ). AreLow bends costs sides low) ends
    (side_skipped bends costs (side + 1) low (ap (has bends) of_child ∙ its)
    (side_skipped bends costs side low (ap (has bends) of_parent ∙ its) before))

-- where none at a side gives the worth, no stage has both a total that is the worth and a sum below it
pub none_at_side :
    (sums slack : ActionCosts) (best side : ℕ) (totals own : List ℕ) (giving below both : StageSet) → side < 24
    → AreLanes totals (λ stage. cost_at (sum_costs sums slack) (8 * side + stage))
    → AreLanes own (λ stage. cost_at sums (8 * side + stage))
    → AreStages giving (λ stage. slice_index totals stage == best)
    → AreStages below (λ stage. nat_lt (slice_index own stage) best)
    → AreStages both (λ stage. has_stage giving stage && has_stage below stage)
    → NoneGivesBelow sums slack best (λ place. place / 8 ≡ side) → AreStages both (λ stage. false)
none_at_side sums slack best side totals own giving below both low totals_are own_are gives lesser shared none stage wide =
    false_from_ne_true (has_stage both stage) (λ e.
    let parts = and_parts (has_stage giving stage) (has_stage below stage) (sym (shared stage wide) ∙ e) in
    let total = equal_is (slice_index totals stage) best (sym (gives stage wide) ∙ parts.0) in
    let sum = less (slice_index own stage) best (sym (lesser stage wide) ∙ parts.1) in
    let own_is = own_are stage wide in
    let most = none (8 * side + stage) (omega (arith, low, wide)) (omega (arith, wide)) (sym (totals_are stage wide) ∙ total) in
    omega (arith, sum, own_is, most))
