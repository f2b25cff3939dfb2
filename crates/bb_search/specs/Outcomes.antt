-- What a run answers and leaves.
use Rattle.std.specs.Prelude.{◌≡◌, ◌≢◌, ℕ, ◌<◌, ◌≤◌, Option, Some, None, List, [], ◌∷◌, length, All}
use Rattle.std.specs.Prelude.{AllPairs, slice_get, IsSome}
use Rattle.brake_base.specs.declared.stroke.Key.{Key}
use Rattle.brake_base.specs.declared.stroke.Step.{Step}
use Rattle.brake_base.specs.declared.stroke.Worth.{Worth}
use Rattle.brake_base.specs.declared.stroke.Worth.TheVariants as worth
use Rattle.job_setup.specs.Setup.{JobData}
use Rattle.handling_cost.specs.StepCost.{key_after}
use Rattle.handling_cost.specs.Plan.{IsPlan, total, start}
use Rattle.handling_cost.specs.Claim.{IsLeastPlan, HasNoPlan}
use Rattle.handling_cost.specs.Good.{IsGood}
use Rattle.handling_cost.specs.Thrifty.{AreThrifty}
use Rattle.handling_cost.specs.Reach.{IsReached, IsNode, ReachIsAbove}
use Rattle.row_pool.specs.Rows.{Pool, PoolRow, keys}
use Rattle.bb_search.specs.declared.outcome.Outcome.{Outcome}
use Rattle.bb_search.specs.declared.outcome.Outcome.TheVariants.{Best, Blocked, Spent}
use Rattle.bb_search.specs.Tested.{IsFirstGauge}
use Rattle.bb_search.specs.Table.{HasRow, HasNote, AreNoted}

-- the gauge of each step is the first that is legal at the key to which the steps before it lead
abbrev pub HaveFirstGauges : JobData → Key → List Step → Type 0
HaveFirstGauges job key [] = Unit {0}
HaveFirstGauges job key (step ∷ steps) =
    IsFirstGauge job key.mask step.action step.gauge
    × HaveFirstGauges job (key_after job key step.action) steps

-- the outcome that makes a claim
abbrev pub outcome_of : Worth → Outcome
outcome_of (worth.Cost cost) = Best cost
outcome_of worth.Blocked = Blocked

-- the outcome where this worth was found for the start key; it has none where all rows were used
abbrev pub outcome_with : Option Worth → Outcome
outcome_with (Some found) = outcome_of found
outcome_with None = Spent

-- the steps of a plan of this cost with the first legal gauges; none where the worth isn't a cost
abbrev pub AreSteps : JobData → Option Worth → List Step → Type 0
AreSteps job (Some (worth.Cost cost)) steps =
    IsPlan job steps × (total job start steps ≡ cost) × HaveFirstGauges job start steps
AreSteps job (Some worth.Blocked) steps = steps ≡ []
AreSteps job None steps = steps ≡ []

-- the steps are a plan of this cost, no plan costs less, and each gauge is the first legal one
pub record IsBestPlan (job : JobData) (cost : ℕ) (steps : List Step) : Type 0 where
  pub least : IsLeastPlan job cost steps
  pub gauges : HaveFirstGauges job start steps

-- with the claim and the steps, the rows and their reasons are a good certificate; each row is
-- reached, has a worth of its own,
-- and was asked for, and each of its reasons is against an action at its key
pub record AreGoodRows (job : JobData) (pool : Pool) (claim : Worth)
    (steps : List Step) : Type 0 where
  pub good : IsGood job claim steps (HasRow pool.rows) (HasNote job pool.rows)
  pub thrifty : AreThrifty job (HasRow pool.rows) (HasNote job pool.rows)
  pub done : (i : ℕ) (row : PoolRow) → slice_get pool.rows i ≡ Some row → IsSome row.worth
  pub most : (i : ℕ) (row : PoolRow) (cost : ℕ) → slice_get pool.rows i ≡ Some row
      → row.worth ≡ Some (worth.Cost cost) → cost ≤ 1000000000
  pub nodes : (i : ℕ) (row : PoolRow) → slice_get pool.rows i ≡ Some row → IsNode job row.key
  pub noted : (i : ℕ) (row : PoolRow) → slice_get pool.rows i ≡ Some row → AreNoted job row

-- each row has a key of its own; there are at most so many rows, and no more than there are keys
-- that are reached
pub record AreWithinBudget (job : JobData) (pool : Pool) (budget : ℕ) : Type 0 where
  pub distinct : AllPairs (λ a b. a ≢ b) (keys pool)
  pub rows : length pool.rows ≤ budget
  pub reach : (count : ℕ) → count < length pool.rows → ReachIsAbove job count

-- reach is above the budget, and there are as many rows as the budget allows, each of a key of its
-- own that is reached
pub record IsUsedUp (job : JobData) (pool : Pool) (budget : ℕ) : Type 0 where
  pub above : ReachIsAbove job budget
  pub full : length pool.rows ≡ budget
  pub distinct : AllPairs (λ a b. a ≢ b) (keys pool)
  pub reached : All (IsReached job) (keys pool)

-- what each outcome says of the pool, the budget and the kept steps
abbrev pub IsAnswer : JobData → Pool → ℕ → List Step → Outcome → Type 0
IsAnswer job pool budget steps (Best cost) =
    IsBestPlan job cost steps × AreGoodRows job pool (worth.Cost cost) steps
IsAnswer job pool budget steps Blocked =
    HasNoPlan job × (steps ≡ [])
    × AreGoodRows job pool worth.Blocked steps
IsAnswer job pool budget steps Spent = IsUsedUp job pool budget
