-- Which actions are refuted where the bends of a mask are folded, told by the actions' numbers.
use Rattle.std.specs.Prelude.{◌↔◌, ℕ, ◌≤◌, Bool, false, IsTrue, List, All, slice_index_or}
use Rattle.brake_base.specs.declared.mask.Mask.{Mask}
use Rattle.brake_base.specs.declared.stroke.Action.{Action}
use Rattle.brake_base.specs.Actions.{IsActionAmong, number_of_action}
use Rattle.nogood_book.specs.declared.nogood.Nogood.{Nogood}
use Rattle.nogood_book.specs.Book.{IsRefuted}

-- the nogoods' actions have numbers on a machine with so many stages
abbrev pub AreNumbered : ℕ → List Nogood → Type 0
AreNumbered stages nogoods = All (λ nogood. IsActionAmong 12 stages nogood.action) nogoods

-- it is told of each action from a number on whether a nogood of the list refutes it
abbrev pub AreTold : ℕ → List Nogood → Mask → ℕ → List Bool → Type 0
AreTold stages nogoods mask from told =
    (action : Action) → IsActionAmong 12 stages action → from ≤ number_of_action stages action
    → IsTrue (slice_index_or told (number_of_action stages action) false)
    ↔ IsRefuted nogoods mask action
