-- Why rows and notes don't prove what they say.
use Rattle.std.specs.Prelude.{◌≡◌, ℕ, ◌*◌, ◌<◌, ◌⊎◌, Some, List, Contains, slice_get}
use Rattle.brake_base.specs.declared.reason.Reason.{Reason}
use Rattle.job_setup.specs.Setup.{JobData, bend_count, stage_count}
use Rattle.handling_cost.specs.StepCost.{IsActionAt}
use Rattle.handling_cost.specs.Plan.{IsReasonFor}
use Rattle.handling_cost.specs.Good.{IsClosed}
use Rattle.cert_lines.specs.declared.row_head.RowHead.{RowHead}
use Rattle.plan_lines.specs.declared.note.Note.{Note}
use Rattle.cert_lines.specs.Lines.{action_at}
use Rattle.plan_cert.specs.GoodCert.{HaveRow}

-- there is a note of this reason against the action of a number at the row of a number
abbrev pub IsNoted : List Note → ℕ → ℕ → Reason → Type 0
IsNoted notes row action reason = Contains notes (record {
  row = row;
  action = action;
  reason = reason;
})

-- there is no note against it
abbrev pub IsUnnoted : List Note → ℕ → ℕ → Type 0
IsUnnoted notes row action = (reason : Reason) → IsNoted notes row action reason → ⊥

-- a reason holds against the action of a number where the bends of a row's key are folded
abbrev pub HoldsAt : JobData → RowHead → ℕ → Reason → Type 0
HoldsAt job head action reason =
    IsReasonFor job head.key.mask (action_at (stage_count job) action) reason

-- the action of a number is closed at a row
abbrev pub IsClosedAt : JobData → List RowHead → RowHead → ℕ → Type 0
IsClosedAt job rows head action =
    IsClosed job (HaveRow rows) head.key (action_at (stage_count job) action) head.worth

-- the number is one of an action at the row's key
abbrev pub IsTried : JobData → RowHead → ℕ → Type 0
IsTried job head action =
    (action < 2 * bend_count job * stage_count job)
    × IsActionAt job head.key (action_at (stage_count job) action)

-- a noted reason holds against the action, or it has no note and is closed
abbrev pub IsAccounted : JobData → List RowHead → List Note → ℕ → RowHead → ℕ → Type 0
IsAccounted job rows notes row head action =
    ((reason : Reason) × IsNoted notes row action reason × HoldsAt job head action reason)
    ⊎ (IsUnnoted notes row action × IsClosedAt job rows head action)

-- so is each action at the row with a lesser number
abbrev pub AreAccounted : JobData → List RowHead → List Note → ℕ → RowHead → ℕ → Type 0
AreAccounted job rows notes row head count =
    (action : ℕ) → action < count → IsTried job head action
    → IsAccounted job rows notes row head action

-- so is each action at each row with a lesser number
abbrev pub RowsAreAccounted : JobData → List RowHead → List Note → ℕ → Type 0
RowsAreAccounted job rows notes count =
    (row : ℕ) (head : RowHead) → row < count → slice_get rows row ≡ Some head
    → AreAccounted job rows notes row head (2 * bend_count job * stage_count job)

-- the action at the row isn't accounted for, for this cause, and all before it are: rows in order,
-- actions in order of number
pub record IsFirstFault (job : JobData) (heads : List RowHead) (notes : List Note) (row action : ℕ)
    (Cause : RowHead → Type 0) : Type 0 where
  pub head : RowHead
  pub at : slice_get heads row ≡ Some head
  pub tried : IsTried job head action
  pub rows : RowsAreAccounted job heads notes row
  pub actions : AreAccounted job heads notes row head action
  pub cause : Cause head

-- a noted reason doesn't hold against the action
abbrev pub IsBadReason : JobData → List Note → ℕ → ℕ → RowHead → Type 0
IsBadReason job notes row action head =
    (reason : Reason) × IsNoted notes row action reason × (HoldsAt job head action reason → ⊥)

-- it has no note and isn't closed
abbrev pub IsNotClosed : JobData → List RowHead → List Note → ℕ → ℕ → RowHead → Type 0
IsNotClosed job rows notes row action head =
    IsUnnoted notes row action × (IsClosedAt job rows head action → ⊥)
