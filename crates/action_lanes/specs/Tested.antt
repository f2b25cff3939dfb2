-- Which actions a search has to test at a key. Costs are in tenths of a second.
use Rattle.std.specs.Prelude.{◌≡◌, ◌↔◌, ℕ, ◌<◌, ◌≤◌, IsTrue, false}
use Rattle.brake_base.specs.declared.mask.Mask.{Mask}
use Rattle.stage_lanes.specs.declared.actions.ActionSet.{ActionSet}
use Rattle.stage_lanes.specs.ActionSets.{has_place}
use Rattle.action_lanes.specs.declared.costs.ActionCosts.{ActionCosts}
use Rattle.action_lanes.specs.Costs.{cost_at, IsEarlier, is_of}

-- an action of these bends is tested where its sum isn't that of no way on, and each action before
-- it by its sum is known to give more than this one's sum
pub record IsTested (bends : Mask) (sums known : ActionCosts) (place : ℕ) : Type 0 where
  pub bend : IsTrue (is_of bends place)
  pub way : cost_at sums place < 536870912
  pub dearer :
      (other : ℕ) → other < 192 → IsTrue (is_of bends other) → IsEarlier sums other place
      → cost_at sums place < cost_at known other

-- the set is that of the tested actions; no other action's sum is below the worth, and none of the
-- set's is above it
pub record AreTested (leads : Mask) (sums known : ActionCosts) (best : ℕ) (set : ActionSet) : Type 0 where
  pub tested :
      (place : ℕ) → place < 192
      → IsTrue (has_place set place) ↔ IsTested leads sums known place
  pub rest :
      (place : ℕ) → place < 192 → IsTrue (is_of leads place) → has_place set place ≡ false
      → best ≤ cost_at sums place
  pub most :
      (place : ℕ) → place < 192 → IsTrue (has_place set place) → cost_at sums place ≤ best
