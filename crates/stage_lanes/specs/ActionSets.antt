-- A set of actions by its bits.
use Rattle.std.specs.Prelude.{◌≡◌, ℕ, ◌+◌, ◌-◌, ◌*◌, ◌/◌, ◌%◌, ◌<◌, ◌≤◌, zero, suc, Bool, false, ◌==◌, IsTrue}
use Rattle.std.specs.Prelude.{List, [], ◌∷◌, ◌++◌, filter, slice_index}
use Rattle.std.specs.Int.{bit_at}
use Rattle.brake_base.specs.declared.stroke.Back.{Back}
use Rattle.brake_base.specs.declared.stroke.Action.{Action}
use Rattle.brake_base.specs.Actions.{IsActionAmong, back_number, number_of_action}
use Rattle.stage_lanes.specs.declared.actions.ActionSet.{ActionSet}

-- where a bend with this side at the back stands among the 24
abbrev pub side_of : ℕ → Back → ℕ
side_of bend back = (bend - 1) * 2 + back_number back

-- an action's place is its number on a machine of eight stages
abbrev pub place_of : Action → ℕ
place_of action = number_of_action 8 action

-- a place is in the set where its bit is set: sixty-four places in a word
unfoldable pub has_place : ActionSet → ℕ → Bool
has_place set place = bit_at (slice_index set.words (place / 64)) (place % 64) == 1

-- whether the action's place is in the set
abbrev pub has : ActionSet → Action → Bool
has set action = has_place set (place_of action)

-- of the 192 places those are in the set of which this holds
abbrev pub ArePlaces : ActionSet → (ℕ → Bool) → Type 0
ArePlaces set holds = (place : ℕ) → place < 192 → has_place set place ≡ holds place

-- no place is in the set
abbrev pub IsNone : ActionSet → Type 0
IsNone set = ArePlaces set (λ place. false)

-- the action is in the set, no place before its own is, and so its number is the least
pub record IsFirst (set : ActionSet) (action : Action) : Type 0 where
  pub among : IsActionAmong 12 8 action
  pub member : IsTrue (has set action)
  pub none_before : (place : ℕ) → place < place_of action → has_place set place ≡ false
  pub least :
      (stages : ℕ) (other : Action) → stages ≤ 8 → IsActionAmong 12 stages action
      → IsActionAmong 12 stages other → IsTrue (has set other)
      → number_of_action stages action ≤ number_of_action stages other

-- the numbers below n in ascending order
abbrev pub numbers_below : ℕ → List ℕ
numbers_below zero = []
numbers_below (suc n) = numbers_below n ++ n ∷ []

-- the places of the set in ascending order
unfoldable pub places_of : ActionSet → List ℕ
places_of set = filter (has_place set) (numbers_below 192)
