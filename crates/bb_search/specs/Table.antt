-- The rows of a pool as a table.
use Rattle.std.specs.Prelude.{◌≡◌, ℕ, ◌≤◌, ◌⊎◌, Option, Some, option_and_then, List, length}
use Rattle.std.specs.Prelude.{slice_get, IsSome}
use Rattle.brake_base.specs.declared.stroke.Key.{Key}
use Rattle.brake_base.specs.declared.stroke.Action.{Action}
use Rattle.brake_base.specs.declared.stroke.Worth.{Worth}
use Rattle.brake_base.specs.declared.reason.Reason.{Reason}
use Rattle.brake_base.specs.Actions.{number_of_action}
use Rattle.job_setup.specs.Setup.{JobData, stage_count}
use Rattle.handling_cost.specs.StepCost.{IsActionAt}
use Rattle.handling_cost.specs.Plan.{IsReasonFor}
use Rattle.row_pool.specs.Rows.{PoolRow}

-- a row has the key and the worth
abbrev pub HasRow : List PoolRow → Key → Worth → Type 0
HasRow rows key worth =
    (i : ℕ) × (row : PoolRow) × (slice_get rows i ≡ Some row) × (row.key ≡ key)
    × (row.worth ≡ Some worth)

-- the reason that a row has for the action of a number
unfoldable pub reason_for : ℕ → PoolRow → Option Reason
reason_for number row = option_and_then (λ reason. reason) (slice_get row.reasons number)

-- the reason that a row has for an action
abbrev pub noted_for : JobData → Action → PoolRow → Option Reason
noted_for job action row = reason_for (number_of_action (stage_count job) action) row

-- a row with a worth has the key, and the reason for the action
abbrev pub HasNote : JobData → List PoolRow → Key → Action → Reason → Type 0
HasNote job rows key action reason =
    (i : ℕ) × (row : PoolRow) × (slice_get rows i ≡ Some row) × (row.key ≡ key) × IsSome row.worth
    × (noted_for job action row ≡ Some reason)

-- the number is that of an action at the key, and the reason holds against it
abbrev pub IsNoted : JobData → Key → ℕ → Reason → Type 0
IsNoted job key number reason =
    (action : Action) × IsActionAt job key action
    × (number_of_action (stage_count job) action ≡ number)
    × IsReasonFor job key.mask action reason

-- each reason that the row has is against an action at its key, and holds
abbrev pub AreNoted : JobData → PoolRow → Type 0
AreNoted job row =
    (number : ℕ) (reason : Reason) → reason_for number row ≡ Some reason
    → IsNoted job row.key number reason

-- each row with a worth stays as it is
abbrev pub Extends : List PoolRow → List PoolRow → Type 0
Extends before after =
    (i : ℕ) (row : PoolRow) (worth : Worth) → slice_get before i ≡ Some row → row.worth ≡ Some worth
    → slice_get after i ≡ Some row

-- all rows stay as they are, and each further row has a worth
pub record Grows (before after : List PoolRow) : Type 0 where
  pub longer : length before ≤ length after
  pub keeps : (i : ℕ) (row : PoolRow) → slice_get before i ≡ Some row → slice_get after i ≡ Some row
  pub news : (i : ℕ) (row : PoolRow) → slice_get after i ≡ Some row
      → (slice_get before i ≡ Some row) ⊎ ((length before ≤ i) × IsSome row.worth)
