-- The pairs of a list of setups, and the cheapest of them.
use Rattle.std.specs.Prelude.{◌≡◌, ℕ, ◌≤◌, List, Some}
use Rattle.std.specs.List.{slice_get}
use Rattle.brake_base.specs.declared.stroke.Step.{Step}
use Rattle.job_setup.specs.Setup.{JobData}
use Rattle.handling_cost.specs.Plan.{IsPlan, total, start}
use Rattle.setup_choice.specs.declared.outcome.Fit.TheVariants.{Ready}
use Rattle.setup_choice.specs.Setups.{OneSetupData}
use Rattle.brake_commands.specs.SetupList.{SetupList}
use Rattle.brake_commands.specs.SetupStops.{FitsAs}

-- a pair: a setup of the list, by its place, that has a choice of pieces, and a plan of its job
pub record IsPair (list : SetupList) (place : ℕ) (job : JobData) (steps : List Step) : Type 0 where
  pub one : OneSetupData
  pub listed : slice_get list.setups place ≡ Some one
  pub fits : FitsAs list.files one (Ready job)
  pub plan : IsPlan job steps

-- no pair costs less, in tenths of a second
abbrev pub NoPairCostsLess : SetupList → ℕ → Type 0
NoPairCostsLess list cost =
    (place : ℕ) (job : JobData) (steps : List Step) → IsPair list place job steps
    → cost ≤ total job start steps

-- there is no pair
abbrev pub HasNoPair : SetupList → Type 0
HasNoPair list =
    (place : ℕ) (job : JobData) (steps : List Step) → IsPair list place job steps → ⊥

-- a pair of this cost, such that none costs less
pub record IsCheapestPair (list : SetupList) (place : ℕ) (job : JobData) (steps : List Step)
    (cost : ℕ) : Type 0 where
  pub pair : IsPair list place job steps
  pub sum : total job start steps ≡ cost
  pub least : NoPairCostsLess list cost
