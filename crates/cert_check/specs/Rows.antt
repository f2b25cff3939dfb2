-- What a check of rows comes to, where of each row the noted actions are given as a set.
use Rattle.std.specs.Prelude.{◌≡◌, ◌⊎◌, ℕ, ◌*◌, ◌<◌, nat_lt, Bool, true, false, IsTrue, List, length}
use Rattle.std.specs.Prelude.{if◌then◌else◌, Option, Some, None, Result, Ok, Err}
use Rattle.brake_base.specs.declared.stroke.Key.{Key}
use Rattle.brake_base.specs.declared.stroke.Action.{Action}
use Rattle.brake_base.specs.declared.stroke.Worth.{Worth}
use Rattle.brake_base.specs.Worths.{IsAtMost, plus}
use Rattle.stage_lanes.specs.declared.actions.ActionSet.{ActionSet}
use Rattle.job_setup.specs.Setup.{JobData, bend_count, stage_count}
use Rattle.handling_cost.specs.Plan.{start}
use Rattle.handling_cost.specs.Good.{Proves, IsClosed}
use Rattle.cert_lines.specs.declared.row_head.RowHead.{RowHead}
use Rattle.plan_lines.specs.declared.note.Note.{Note}
use Rattle.cert_lines.specs.Lines.{action_at}
use Rattle.plan_cert.specs.GoodCert.{HaveRow}
use Rattle.plan_cert.specs.RowFaults.{IsTried, RowsAreAccounted, IsFirstFault, IsBadReason}
use Rattle.plan_cert.specs.RowFaults.{IsNotClosed}
use Rattle.cert_check.specs.declared.fault.CheckFault.{CheckFault}
use Rattle.cert_check.specs.declared.fault.CheckFault.TheVariants.{BadReason, NotClosed, TooLow}
use Rattle.cert_check.specs.RowNotes.{is_noted}

-- a cost and what a worth that stands for the key says are at least a worth
abbrev pub ProvesAfter : JobData → List RowHead → Key → ℕ → Worth → Type 0
ProvesAfter job rows key cost worth =
    (next : Worth) × Proves job (HaveRow rows) key next × IsAtMost worth (plus cost next)

-- an action is closed at a row
abbrev pub ClosesAt : JobData → List RowHead → RowHead → Action → Type 0
ClosesAt job rows head action = IsClosed job (HaveRow rows) head.key action head.worth

-- an action is noted at a row, or closed
abbrev pub IsMet : JobData → List RowHead → RowHead → ActionSet → ℕ → Type 0
IsMet job rows head noted number =
    IsTrue (is_noted job noted number) ⊎ ClosesAt job rows head (action_at (stage_count job) number)

-- it can be tried, isn't noted and isn't closed
pub record IsOpen (job : JobData) (rows : List RowHead) (head : RowHead) (noted : ActionSet)
    (number : ℕ) : Type 0 where
  pub tried : IsTried job head number
  pub unnoted : is_noted job noted number ≡ false
  pub unclosed : ClosesAt job rows head (action_at (stage_count job) number) → ⊥

-- the action of a number is open, or is met where it can be tried
abbrev pub NumberAnswer : JobData → List RowHead → RowHead → ActionSet → ℕ → Bool → Type 0
NumberAnswer job rows head noted number true = IsOpen job rows head noted number
NumberAnswer job rows head noted number false =
    IsTried job head number → IsMet job rows head noted number

-- each action below a number is met where it can be tried
abbrev pub AreMet : JobData → List RowHead → RowHead → ActionSet → ℕ → Type 0
AreMet job rows head noted count =
    (number : ℕ) → number < count → IsTried job head number → IsMet job rows head noted number

-- the first open action of a row; none where each action is met
abbrev pub OpenAnswer : JobData → List RowHead → RowHead → ActionSet → Option ℕ → Type 0
OpenAnswer job rows head noted None =
    AreMet job rows head noted (2 * bend_count job * stage_count job)
OpenAnswer job rows head noted (Some number) =
    IsOpen job rows head noted number × AreMet job rows head noted number

-- the first of an open action of a row, where there is one, and of one whose note is unsound
abbrev pub first_of : ℕ → Option ℕ → ℕ → CheckFault
first_of row None unsound = BadReason row unsound
first_of row (Some number) unsound =
    if nat_lt number unsound then NotClosed row number else BadReason row unsound

-- the refusal of a row with an open action or an unsound note
abbrev pub first_fault : ℕ → Option ℕ → Option ℕ → Result (Unit {0}) CheckFault
first_fault row open_action (Some unsound) = Err (first_of row open_action unsound)
first_fault row (Some number) None = Err (NotClosed row number)
first_fault row None None = Ok tt

-- each action at each row is accounted for, or the first that isn't
abbrev pub RowsAnswer : JobData → List RowHead → List Note → Result (Unit {0}) CheckFault → Type 0
RowsAnswer job rows notes (Ok _) = RowsAreAccounted job rows notes (length rows)
RowsAnswer job rows notes (Err (BadReason row action)) =
    IsFirstFault job rows notes row action (IsBadReason job notes row action)
RowsAnswer job rows notes (Err (NotClosed row action)) =
    IsFirstFault job rows notes row action (IsNotClosed job rows notes row action)
RowsAnswer job rows notes (Err _) = ⊥

-- the claim is proved of the start, or it is too high
abbrev pub ProvesAnswer : JobData → List RowHead → Worth → Result (Unit {0}) CheckFault → Type 0
ProvesAnswer job rows claim (Ok _) = ProvesAfter job rows start 0 claim
ProvesAnswer job rows claim (Err TooLow) = ProvesAfter job rows start 0 claim → ⊥
ProvesAnswer job rows claim (Err _) = ⊥
