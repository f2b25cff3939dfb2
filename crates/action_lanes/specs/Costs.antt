-- A cost for each action, in tenths of a second.
use Rattle.std.specs.Prelude.{◌≡◌, ◌⊎◌, ℕ, ◌+◌, ◌*◌, ◌/◌, ◌%◌, ◌<◌, ◌≤◌, ◌==◌, Bool, IsTrue, List, []}
use Rattle.std.specs.Prelude.{slice_index, slice_index_or, map}
use Rattle.std.specs.List.{range_with_len}
use Rattle.std.specs.Int.{bit_at}
use Rattle.brake_base.specs.declared.mask.Mask.{Mask}
use Rattle.brake_base.specs.Masks.{has}
use Rattle.brake_base.specs.declared.stroke.Action.{Action}
use Rattle.brake_base.specs.Actions.{IsActionAmong}
use Rattle.stage_lanes.specs.declared.actions.ActionSet.{ActionSet}
use Rattle.stage_lanes.specs.declared.costs.StageCosts.{StageCosts}
use Rattle.stage_lanes.specs.ActionSets.{has_place, place_of, has as has_action}
use Rattle.action_lanes.specs.declared.costs.ActionCosts.{ActionCosts}

-- the costs of a bend with one side at the back, by stage
abbrev pub lanes_at : ActionCosts → ℕ → List ℕ
lanes_at costs side = (slice_index_or costs.0 side (record { 0 = [] })).0

-- the cost of the action at a place
unfoldable pub cost_at : ActionCosts → ℕ → ℕ
cost_at costs place = slice_index (lanes_at costs (place / 8)) (place % 8)

-- each action has the cost of its place
abbrev pub AreCosts : ActionCosts → (ℕ → ℕ) → Type 0
AreCosts costs cost = (place : ℕ) → place < 192 → cost_at costs place ≡ cost place

-- the sums of two costs at a side, by stage
abbrev pub side_sums : ActionCosts → ActionCosts → ℕ → StageCosts
side_sums one two side = record {
  0 = map (λ stage. cost_at one (8 * side + stage) + cost_at two (8 * side + stage))
      (range_with_len 0 8);
}

-- the sum of two costs of each action
unfoldable pub sum_costs : ActionCosts → ActionCosts → ActionCosts
sum_costs one two = record { 0 = map (side_sums one two) (range_with_len 0 24) }

-- one place comes before another: by the cost, ties by number
abbrev pub IsEarlier : ActionCosts → ℕ → ℕ → Type 0
IsEarlier costs first second =
    (cost_at costs first < cost_at costs second)
    ⊎ ((cost_at costs first ≡ cost_at costs second) × (first < second))

-- the action is in the set, and none of the set comes before it by its cost
pub record IsCheapest (costs : ActionCosts) (set : ActionSet) (action : Action) : Type 0 where
  pub among : IsActionAmong 12 8 action
  pub member : IsTrue (has_action set action)
  pub none_earlier :
      (place : ℕ) → place < 192 → IsTrue (has_place set place)
      → IsEarlier costs place (place_of action) → ⊥

-- whether the action at a place folds one of these bends
abbrev pub is_of : Mask → ℕ → Bool
is_of bends place = has bends (place / 16 + 1)

-- the least of the costs of these bends' actions and of what no way on costs
pub record IsLeastCost (costs : ActionCosts) (bends : Mask) (cost : ℕ) : Type 0 where
  pub capped : cost ≤ 536870912
  pub least : (place : ℕ) → place < 192 → IsTrue (is_of bends place) → cost ≤ cost_at costs place
  pub attained :
      (cost ≡ 536870912)
      ⊎ ((place : ℕ) × (place < 192) × IsTrue (is_of bends place) × (cost_at costs place ≡ cost))

-- of the 64 bits of a word those are set of which this holds
abbrev pub AreBits : ℕ → (ℕ → Bool) → Type 0
AreBits word holds = (bit : ℕ) → bit < 64 → (bit_at word bit == 1) ≡ holds bit
