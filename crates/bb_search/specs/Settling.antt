-- What the search knows while it settles keys.
use Rattle.std.specs.Prelude.{◌≡◌, ℕ, ◌+◌, ◌<◌, ◌≤◌, ◌⊎◌, Option, Some, None, List, length}
use Rattle.std.specs.Prelude.{slice_get, Contains}
use Rattle.brake_base.specs.declared.stroke.Key.{Key}
use Rattle.brake_base.specs.declared.stroke.Action.{Action}
use Rattle.brake_base.specs.declared.stroke.Step.{Step}
use Rattle.brake_base.specs.declared.stroke.Worth.{Worth}
use Rattle.brake_base.specs.declared.stroke.Worth.TheVariants.{Cost, Blocked}
use Rattle.brake_base.specs.Worths.{IsAtMost}
use Rattle.job_setup.specs.Setup.{JobData}
use Rattle.handling_cost.specs.StepCost.{IsActionAt, IsFull, left, key_after, cost_of}
use Rattle.handling_cost.specs.Plan.{IsLegal, IsRest, total}
use Rattle.handling_cost.specs.Bound.{sum_of}
use Rattle.handling_cost.specs.Good.{IsClosed}
use Rattle.handling_cost.specs.Reach.{IsNode}
use Rattle.row_pool.specs.Rows.{Pool, PoolRow, keys}
use Rattle.bb_search.specs.Table.{HasRow, noted_for, AreNoted, Grows}

-- a rest from the key has this cost
abbrev pub IsAttained : JobData → Key → Worth → Type 0
IsAttained job key (Cost n) = (steps : List Step) × IsRest job key steps × (total job key steps ≡ n)
IsAttained job key Blocked = Unit {0}

-- the key's worth: 0 where every bend is folded, else that of its row
abbrev pub IsKnown : JobData → List PoolRow → Key → Worth → Type 0
IsKnown job rows key worth = (IsFull job key × (worth ≡ Cost 0)) ⊎ HasRow rows key worth

-- a legal step gives this cost, by a worth that is known
abbrev pub LeadsOn : JobData → List PoolRow → Key → Worth → Type 0
LeadsOn job rows key (Cost n) =
    (step : Step) × (rest : ℕ) × IsLegal job key step
    × IsKnown job rows (key_after job key step.action) (Cost rest)
    × (cost_of job key step.action + rest ≡ n)
LeadsOn job rows key Blocked = Unit {0}

-- a row is done with this worth
pub record IsSettled (job : JobData) (rows : List PoolRow) (row : PoolRow)
    (worth : Worth) : Type 0 where
  pub noted : AreNoted job row
  pub closed : (action : Action) → IsActionAt job row.key action → noted_for job action row ≡ None
      → IsClosed job (HasRow rows) row.key action worth
  pub attained : IsAttained job row.key worth
  pub leads_on : LeadsOn job rows row.key worth

-- each row with a worth is done, and each row's key is reached and not full
pub record IsSound (job : JobData) (rows : List PoolRow) : Type 0 where
  pub settled : (i : ℕ) (row : PoolRow) (worth : Worth) → slice_get rows i ≡ Some row
      → row.worth ≡ Some worth → IsSettled job rows row worth
  pub nodes : (i : ℕ) (row : PoolRow) → slice_get rows i ≡ Some row → IsNode job row.key

-- at a row without a worth more bends are left than this
abbrev pub OpenAbove : JobData → List PoolRow → ℕ → Type 0
OpenAbove job rows least =
    (i : ℕ) (row : PoolRow) → slice_get rows i ≡ Some row → row.worth ≡ None
    → least < left job row.key

-- the row has no reason for an action that leads to the key, and the action's sum is at most the
-- worth
pub record IsSource (job : JobData) (row : PoolRow) (action : Action) (worth : Worth)
    (key : Key) : Type 0 where
  pub is_action : IsActionAt job row.key action
  pub free : noted_for job action row ≡ None
  pub next : key_after job row.key action ≡ key
  pub sum : IsAtMost (Cost (sum_of job row.key action)) worth

-- some row that is done is the key's source
abbrev pub HasSource : JobData → List PoolRow → Key → Type 0
HasSource job rows key =
    (i : ℕ) × (row : PoolRow) × (worth : Worth) × (action : Action) × (slice_get rows i ≡ Some row)
    × (row.worth ≡ Some worth) × IsSource job row action worth key

-- what a pool has after a key's worth was found
pub record IsKnownAfter (job : JobData) (before after : Pool) (key : Key)
    (worth : Worth) : Type 0 where
  pub sound : IsSound job after.rows
  pub grows : Grows before.rows after.rows
  pub known : IsKnown job after.rows key worth
  pub sources : (i : ℕ) (row : PoolRow) → slice_get after.rows i ≡ Some row → length before.rows ≤ i
      → (row.key ≡ key) ⊎ HasSource job after.rows row.key
  pub limit : after.limit ≡ before.limit
  pub actions : after.actions ≡ before.actions

-- all rows are used, and one more key is reached
pub record IsSpent (job : JobData) (before after : Pool) : Type 0 where
  pub full : length after.rows ≡ after.limit
  pub nodes : (i : ℕ) (row : PoolRow) → slice_get after.rows i ≡ Some row → IsNode job row.key
  pub more : (key : Key) × IsNode job key × (Contains (keys after) key → ⊥)
  pub limit : after.limit ≡ before.limit
  pub actions : after.actions ≡ before.actions

-- the worth that was found for a key, or that all rows are used
abbrev pub IsFound : JobData → Pool → Pool → Key → Option Worth → Type 0
IsFound job before after key None = IsSpent job before after
IsFound job before after key (Some worth) = IsKnownAfter job before after key worth
