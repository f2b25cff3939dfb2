-- The cheapest of the setups that were tried.
use Rattle.std.specs.Prelude.{◌≡◌, ℕ, ◌<◌, ◌≤◌, List, length, Option, Some, None}
use Rattle.std.specs.List.{slice_get}
use Rattle.brake_base.specs.declared.stroke.Worth.TheVariants.{Cost}
use Rattle.setup_choice.specs.declared.cheapest.Tried.{Tried}
use Rattle.setup_choice.specs.declared.cheapest.Tried.TheVariants.{Planned}
use Rattle.setup_choice.specs.declared.cheapest.Cheapest.{Cheapest}

-- the setup of this place has a plan, and its plans cost at least this, in tenths of a second
abbrev pub HasCost : List Tried → ℕ → ℕ → Type 0
HasCost tried place cost = slice_get tried place ≡ Some (Planned (Cost cost))

-- of the first so many setups that of this place has this cost; none of them costs less, and none
-- before it costs as little
pub record IsCheapest (tried : List Tried) (bound place cost : ℕ) : Type 0 where
  pub within : place < bound
  pub has : HasCost tried place cost
  pub least : (other more : ℕ) → other < bound → HasCost tried other more → cost ≤ more
  pub first : (other more : ℕ) → other < place → HasCost tried other more → cost < more

-- the cheapest of the first so many setups, or none exactly where none of them has a plan
abbrev pub IsCheapestOf : List Tried → ℕ → Option Cheapest → Type 0
IsCheapestOf tried bound (Some it) = IsCheapest tried bound it.place it.cost
IsCheapestOf tried bound None =
    (place cost : ℕ) → place < bound → HasCost tried place cost → ⊥

-- the first place of least cost, or none exactly where no setup has a plan
abbrev pub IsBest : List Tried → Option ℕ → Type 0
IsBest tried (Some place) = (cost : ℕ) × IsCheapest tried (length tried) place cost
IsBest tried None = (place cost : ℕ) → HasCost tried place cost → ⊥
