-- What a claim says of a job. Costs are in tenths of a second.
use Rattle.std.specs.Prelude.{◌≡◌, ℕ, ◌≤◌, List}
use Rattle.brake_base.specs.declared.stroke.Step.{Step}
use Rattle.brake_base.specs.declared.stroke.Worth.{Worth}
use Rattle.brake_base.specs.declared.stroke.Worth.TheVariants.{Cost, Blocked}
use Rattle.job_setup.specs.Setup.{JobData}
use Rattle.handling_cost.specs.Plan.{IsPlan, total, start}

-- there is no plan
abbrev pub HasNoPlan : JobData → Type 0
HasNoPlan job = (steps : List Step) → IsPlan job steps → ⊥

-- no plan costs less
abbrev pub NoPlanCostsLess : JobData → ℕ → Type 0
NoPlanCostsLess job cost = (steps : List Step) → IsPlan job steps → cost ≤ total job start steps

-- the steps are a plan of this cost, and no plan costs less
pub record IsLeastPlan (job : JobData) (cost : ℕ) (steps : List Step) : Type 0 where
  pub plan : IsPlan job steps
  pub sum : total job start steps ≡ cost
  pub least : NoPlanCostsLess job cost

-- the least cost of a plan
abbrev pub IsLeastCost : JobData → ℕ → Type 0
IsLeastCost job cost = (steps : List Step) × IsLeastPlan job cost steps

-- the claim is true of the job: it is the least cost of a plan, or there is none
abbrev pub IsTrueClaim : JobData → Worth → Type 0
IsTrueClaim job (Cost cost) = IsLeastCost job cost
IsTrueClaim job Blocked = HasNoPlan job
