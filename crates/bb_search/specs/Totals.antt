-- The totals of a key's actions: what a plan by each of them costs by what is known, which is its sum and its slack.
-- Costs are in tenths of a second.
use Rattle.std.specs.Prelude.{◌≡◌, ℕ, ◌+◌, ◌^◌, ◌<◌, ◌≤◌}
use Rattle.action_lanes.specs.declared.costs.ActionCosts.{ActionCosts}
use Rattle.action_lanes.specs.Costs.{cost_at, sum_costs}

-- each action's total fits a lane
abbrev pub HaveRoom : ActionCosts → ActionCosts → Type 0
HaveRoom sums slack =
    (place : ℕ) → place < 192 → cost_at sums place + cost_at slack place < 2 ^ 32

-- of the actions at these places none has a sum below the best worth and gives it
abbrev pub NoneGivesBelow : ActionCosts → ActionCosts → ℕ → (ℕ → Type 0) → Type 0
NoneGivesBelow sums slack best IsAmong =
    (place : ℕ) → place < 192 → IsAmong place → cost_at (sum_costs sums slack) place ≡ best
    → best ≤ cost_at sums place
