-- Rows that pruning asked for.
use Rattle.std.specs.Prelude.{◌≡◌, ◌⊎◌}
use Rattle.brake_base.specs.declared.stroke.Key.{Key}
use Rattle.brake_base.specs.declared.stroke.Action.{Action}
use Rattle.brake_base.specs.declared.stroke.Worth.{Worth}
use Rattle.brake_base.specs.declared.stroke.Worth.TheVariants.{Cost}
use Rattle.brake_base.specs.declared.reason.Reason.{Reason}
use Rattle.brake_base.specs.Worths.{IsAtMost}
use Rattle.job_setup.specs.Setup.{JobData}
use Rattle.handling_cost.specs.StepCost.{IsActionAt, key_after}
use Rattle.handling_cost.specs.Plan.{start}
use Rattle.handling_cost.specs.Bound.{sum_of}

-- a row of this key and worth, by an action that has no note, leads to the key, and the action's
-- sum is at most the row's worth
abbrev pub HasSourceIn :
    JobData → (Key → Worth → Type 0) → (Key → Action → Reason → Type 0) → Key → Type 0
HasSourceIn job HasRow HasNote key =
    (source : Key) × (worth : Worth) × (action : Action) × HasRow source worth
    × IsActionAt job source action
    × ((reason : Reason) → ¬ HasNote source action reason) × (key_after job source action ≡ key)
    × IsAtMost (Cost (sum_of job source action)) worth

-- each row other than the start's has a source
abbrev pub AreThrifty : JobData → (Key → Worth → Type 0) → (Key → Action → Reason → Type 0) → Type 0
AreThrifty job HasRow HasNote =
    (key : Key) (worth : Worth) → HasRow key worth
    → (key ≡ start) ⊎ HasSourceIn job HasRow HasNote key
