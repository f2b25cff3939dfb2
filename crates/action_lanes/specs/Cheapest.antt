-- The cheapest of a set's actions. Costs are in tenths of a second.
use Rattle.std.specs.Prelude.{◌≡◌, ◌⊎◌, ℕ, ◌<◌, IsTrue, if◌then◌else◌}
use Rattle.brake_base.specs.declared.mask.Mask.{Mask}
use Rattle.stage_lanes.specs.declared.actions.ActionSet.{ActionSet}
use Rattle.stage_lanes.specs.ActionSets.{has_place}
use Rattle.action_lanes.specs.declared.costs.ActionCosts.{ActionCosts}
use Rattle.action_lanes.specs.Costs.{cost_at, is_of, AreCosts}

-- the costs of the set's actions, and what no way on costs at all others
abbrev pub AreOnly : ActionCosts → ActionSet → ActionCosts → Type 0
AreOnly costs set only =
    AreCosts only (λ place. if has_place set place then cost_at costs place else 536870912)

-- the set's actions are of these bends
abbrev pub AreOf : Mask → ActionSet → Type 0
AreOf bends set =
    (place : ℕ) → place < 192 → IsTrue (has_place set place) → IsTrue (is_of bends place)

-- a part of the set: those of its actions that cost the least
pub record AreCheapest (costs : ActionCosts) (set part : ActionSet) : Type 0 where
  pub among :
      (place : ℕ) → place < 192 → IsTrue (has_place part place) → IsTrue (has_place set place)
  pub least :
      (place other : ℕ) → place < 192 → other < 192
      → IsTrue (has_place part place) → IsTrue (has_place set other)
      → (cost_at costs place < cost_at costs other)
      ⊎ ((cost_at costs place ≡ cost_at costs other) × IsTrue (has_place part other))
