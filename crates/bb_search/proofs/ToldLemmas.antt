-- What is told of an action, from the places of its sets and the costs.
use Rattle.std.proofs.Common.{◌≡◌, ◌≢◌, inl, inr, ℕ, ◌<◌, Bool, true, false, cond, ◌||◌, ◌==◌, refl, ◌∙◌, ap}
use Rattle.brake_base.specs.declared.stroke.Action.{Action}
use Rattle.brake_base.specs.Actions.{IsActionAmong}
use Rattle.stage_lanes.specs.declared.actions.ActionSet.{ActionSet}
use Rattle.stage_lanes.specs.ActionSets.{place_of, has, has_place, ArePlaces}
use Rattle.std.proofs.lemmas.Bool.Decides.{eqb_tells}
use Rattle.action_lanes.specs.declared.costs.ActionCosts.{ActionCosts}
use Rattle.action_lanes.specs.Costs.{cost_at, AreCosts}
use Rattle.bb_search.proofs.KnownLemmas.{place_small}

-- a number is itself, and no other
test_same : (m : ℕ) → (m == m) ≡ true
test_same m = elim (eqb_tells m m) [ inl here ↦ here.0 | inr there ↦ absurd (there.1 refl) ]

test_apart : (m n : ℕ) → m ≢ n → (m == n) ≡ false
test_apart m n differ = elim (eqb_tells m n) [ inl here ↦ absurd (differ here.1) | inr there ↦ there.0 ]

or_true : (s : Bool) → (s || true) ≡ true
or_true true = refl
or_true false = refl

or_false : (s : Bool) → (s || false) ≡ s
or_false true = refl
or_false false = refl

-- the action is in the set that has it too
pub with_here :
    (set after : ActionSet) (action : Action) → IsActionAmong 12 8 action
    → ArePlaces after (λ place. has_place set place || (place == place_of action))
    → has after action ≡ true
with_here set after action among are =
    are (place_of action) (place_small action among)
    ∙ (ap (λ (b : Bool). has set action || b) (test_same (place_of action)) ∙ or_true (has set action))

-- and of other places those that were in it
pub with_there :
    (set after : ActionSet) (action : Action)
    → ArePlaces after (λ place. has_place set place || (place == place_of action))
    → (place : ℕ) → place < 192 → place ≢ place_of action
    → has_place after place ≡ has_place set place
with_there set after action are place within differ =
    are place within
    ∙ (ap (λ (b : Bool). has_place set place || b) (test_apart place (place_of action) differ)
    ∙ or_false (has_place set place))

pub cost_here :
    (costs after : ActionCosts) (action : Action) (cost : ℕ) → IsActionAmong 12 8 action
    → AreCosts after (λ place. cond (place == place_of action) cost (cost_at costs place))
    → cost_at after (place_of action) ≡ cost
cost_here costs after action cost among are =
    are (place_of action) (place_small action among)
    ∙ ap (λ (b : Bool). cond b cost (cost_at costs (place_of action))) (test_same (place_of action))

pub cost_there :
    (costs after : ActionCosts) (action : Action) (cost : ℕ)
    → AreCosts after (λ place. cond (place == place_of action) cost (cost_at costs place))
    → (place : ℕ) → place < 192 → place ≢ place_of action
    → cost_at after place ≡ cost_at costs place
cost_there costs after action cost are place within differ =
    are place within
    ∙ ap (λ (b : Bool). cond b cost (cost_at costs place)) (test_apart place (place_of action) differ)
