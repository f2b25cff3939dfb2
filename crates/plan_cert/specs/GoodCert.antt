-- A certificate that proves its claim for a job.
use Rattle.std.specs.Prelude.{ℕ, ◌<◌, ◌≤◌, List, length, map, All}
use Rattle.brake_base.specs.declared.stroke.Key.{Key}
use Rattle.brake_base.specs.declared.stroke.Action.{Action}
use Rattle.brake_base.specs.declared.stroke.Worth.{Worth}
use Rattle.brake_base.specs.declared.reason.Reason.{Reason}
use Rattle.job_setup.specs.Setup.{JobData, stage_count}
use Rattle.handling_cost.specs.Good.{IsGood, RowIn, NoteIn}
use Rattle.handling_cost.specs.Reach.{IsReached, ReachIsAbove}
use Rattle.handling_cost.specs.Thrifty.{AreThrifty}
use Rattle.cert_lines.specs.declared.row_head.RowHead.{RowHead}
use Rattle.plan_lines.specs.declared.note.Note.{Note}
use Rattle.plan_cert.specs.Cert.{CertData}
use Rattle.cert_lines.specs.Lines.{action_at}
use Rattle.plan_cert.specs.WellFormed.{IsWellFormed}

-- the rows as keys with their worths
abbrev pub worths_in : List RowHead → List (Key × Worth)
worths_in rows = map (λ row. (row.key, row.worth)) rows

-- the notes, each as the number of its row, its action and its reason
abbrev pub reasons_in : JobData → List Note → List (ℕ × (Action × Reason))
reasons_in job notes =
    map (λ note. (note.row, (action_at (stage_count job) note.action, note.reason))) notes

-- the rows have this key with this worth
abbrev pub HaveRow : List RowHead → Key → Worth → Type 0
HaveRow rows = RowIn (worths_in rows)

-- the rows have this key with a note of this reason against the action
abbrev pub HaveNote : JobData → List RowHead → List Note → Key → Action → Reason → Type 0
HaveNote job rows notes = NoteIn (worths_in rows) (reasons_in job notes)

-- the certificate has a row of this key and worth
abbrev pub HasRow : CertData → Key → Worth → Type 0
HasRow cert = HaveRow cert.rows

-- it has a note of this reason against the action at the key
abbrev pub HasNote : JobData → CertData → Key → Action → Reason → Type 0
HasNote job cert = HaveNote job cert.rows cert.notes

-- the certificate is well formed, and proves its claim
pub record IsGoodCert (job : JobData) (cert : CertData) : Type 0 where
  pub form : IsWellFormed job cert
  pub good : IsGood job cert.claim cert.steps (HasRow cert) (HasNote job cert)

-- it is good, and has no row for which the search had no cause: each is of a key that is reached,
-- and, but for the start's, was asked for by another
pub record IsThriftyCert (job : JobData) (cert : CertData) : Type 0 where
  pub proves : IsGoodCert job cert
  pub thrifty : AreThrifty job (HasRow cert) (HasNote job cert)
  pub reached : All (λ row. IsReached job row.key) cert.rows

-- it has at most so many rows, and no more than there are keys that are reached
pub record IsWithinBudget (job : JobData) (budget : ℕ) (cert : CertData) : Type 0 where
  pub rows : length cert.rows ≤ budget
  pub reach : (count : ℕ) → count < length cert.rows → ReachIsAbove job count
