-- What checking a text comes to.
use Rattle.std.specs.Prelude.{◌≡◌, ◌⊎◌, ℕ, List, length, Result, Ok, Err}
use Rattle.brake_base.specs.declared.stroke.Step.{Step}
use Rattle.brake_base.specs.declared.stroke.Worth.{Worth}
use Rattle.brake_base.specs.declared.stroke.Worth.TheVariants.{Cost, Blocked}
use Rattle.brake_base.specs.Worths.{IsAtMost}
use Rattle.job_setup.specs.Setup.{JobData}
use Rattle.job_setup.specs.ValidJob.{IsJob}
use Rattle.handling_cost.specs.Plan.{start}
use Rattle.handling_cost.specs.Claim.{HasNoPlan, IsLeastCost}
use Rattle.handling_cost.specs.Good.{AreClaimed, Proves}
use Rattle.cert_lines.specs.declared.row_head.RowHead.{RowHead}
use Rattle.plan_cert.specs.Cert.{CertData}
use Rattle.plan_cert.specs.WellFormed.{IsWellFormed}
use Rattle.plan_cert.specs.GoodCert.{HasRow, IsGoodCert}
use Rattle.cert_check.specs.declared.verdict.Verdict.{Verdict}
use Rattle.cert_check.specs.declared.verdict.Verdict.TheVariants.{Optimal, NoPlan}
use Rattle.cert_check.specs.declared.verdict.Checked.{Checked}
use Rattle.cert_check.specs.declared.fault.CheckFault.{CheckFault}
use Rattle.cert_check.specs.declared.fault.CheckFault.TheVariants.{Cert, BadStep, BadCost}
use Rattle.cert_check.specs.declared.fault.CheckFault.TheVariants.{BadReason, NotClosed, TooLow}
use Rattle.cert_check.specs.declared.fault.CheckFault.TheVariants.{NoMemory, Unfinished}
use Rattle.cert_check.specs.StepFaults.{IsFirstBadStep, AreUnfinished, IsBadCost}
use Rattle.plan_cert.specs.RowFaults.{RowsAreAccounted, IsFirstFault, IsBadReason, IsNotClosed}
use Rattle.cert_check.specs.declared.row_notes.RowNotes.{RowNotes}
use Rattle.cert_check.specs.ReadCert.{KeepsAll}
use Rattle.cert_check.specs.Texts.{IsTextOfCert, IsRefusedFor}

-- an accepted claim, and the job of which it is proved
pub record CheckedData : Type 0 where
  pub verdict : Verdict
  pub job : JobData

abbrev pub checked_data : Checked → CheckedData
checked_data checked = record { verdict = checked.verdict; job = checked.job }

abbrev pub verdict_of : Worth → Verdict
verdict_of (Cost cost) = Optimal cost
verdict_of Blocked = NoPlan

-- a worth that stands for the start is at least what is claimed
abbrev pub IsProved : JobData → CertData → Type 0
IsProved job cert =
    (worth : Worth) × Proves job (HasRow cert) start worth × IsAtMost cert.claim worth

-- the text is that of a certificate that is good for a valid job
pub record IsGoodText (text : List ℕ) (job : JobData) (cert : CertData) : Type 0 where
  pub written : IsTextOfCert text job cert
  pub good : IsGoodCert job cert

-- the steps are as claimed, and each action at each row is accounted for
pub record HasGoodRows (job : JobData) (cert : CertData) : Type 0 where
  pub claimed : AreClaimed job cert.claim cert.steps
  pub rows : RowsAreAccounted job cert.rows cert.notes (length cert.rows)

-- the first cause for which a certificate of a job isn't good
abbrev pub IsFault : JobData → CertData → CheckFault → Type 0
IsFault job cert (Cert fault) = ⊥
IsFault job cert (BadStep index fault) = IsFirstBadStep job start cert.steps index fault
IsFault job cert Unfinished = AreUnfinished job cert.claim cert.steps
IsFault job cert BadCost = IsBadCost job cert.claim cert.steps
IsFault job cert (BadReason row action) =
    AreClaimed job cert.claim cert.steps
    × IsFirstFault job cert.rows cert.notes row action (IsBadReason job cert.notes row action)
IsFault job cert (NotClosed row action) =
    AreClaimed job cert.claim cert.steps
    × IsFirstFault job cert.rows cert.notes row action
    (IsNotClosed job cert.rows cert.notes row action)
IsFault job cert TooLow = HasGoodRows job cert × (IsProved job cert → ⊥)
IsFault job cert NoMemory = ⊥

-- the text is accepted: it is that of a good certificate of the job, whose claim is the verdict
pub record IsAccepted (text : List ℕ) (checked : CheckedData) : Type 0 where
  pub cert : CertData
  pub good : IsGoodText text checked.job cert
  pub verdict : checked.verdict ≡ verdict_of cert.claim

-- the text is that of a certificate that isn't good, and this is the first cause
pub record IsFaulty (text : List ℕ) (fault : CheckFault) : Type 0 where
  pub job : JobData
  pub cert : CertData
  pub written : IsTextOfCert text job cert
  pub cause : IsFault job cert fault

-- the text is refused for this as the first cause: it is no certificate's text, or its certificate
-- isn't good
abbrev pub IsRefused : List ℕ → CheckFault → Type 0
IsRefused text (Cert fault) = IsRefusedFor text fault
IsRefused text fault = IsFaulty text fault

-- what a check of the text comes to
abbrev pub IsAnswer : List ℕ → Result CheckedData CheckFault → Type 0
IsAnswer text (Ok checked) = IsAccepted text checked
IsAnswer text (Err fault) = IsRefused text fault

-- what was answered is that, unless memory ran out
abbrev pub Answers : List ℕ → Result Checked CheckFault → Type 0
Answers text (Ok checked) = IsAnswer text (Ok (checked_data checked))
Answers text (Err fault) = (fault ≡ NoMemory) ⊎ IsAnswer text (Err fault)

-- what was answered to the text of this good certificate: its claim and its job, unless memory ran
-- out
abbrev pub IsAcceptedAs : JobData → CertData → Result Checked CheckFault → Type 0
IsAcceptedAs job cert (Ok checked) = checked_data checked ≡ record {
  verdict = verdict_of cert.claim;
  job = job;
}
IsAcceptedAs job cert (Err fault) = fault ≡ NoMemory

-- a text that is a good certificate's is accepted as this
abbrev pub AcceptsGood : List ℕ → Result Checked CheckFault → Type 0
AcceptsGood text result =
    (job : JobData) (cert : CertData) → IsGoodText text job cert → IsAcceptedAs job cert result

-- the verdict is true of the job: its cost is the least cost of a plan, or there is no plan
abbrev pub IsTrueOf : JobData → Verdict → Type 0
IsTrueOf job (Optimal cost) = IsLeastCost job cost
IsTrueOf job NoPlan = HasNoPlan job

-- what the rows of a certificate come to: each action is accounted for and the claim is proved, or
-- the first cause for which it isn't so
abbrev pub IsRowsFault : JobData → CertData → CheckFault → Type 0
IsRowsFault job cert (BadReason row action) =
    IsFirstFault job cert.rows cert.notes row action (IsBadReason job cert.notes row action)
IsRowsFault job cert (NotClosed row action) =
    IsFirstFault job cert.rows cert.notes row action
    (IsNotClosed job cert.rows cert.notes row action)
IsRowsFault job cert TooLow =
    RowsAreAccounted job cert.rows cert.notes (length cert.rows) × (IsProved job cert → ⊥)
IsRowsFault job cert _ = ⊥

abbrev pub RowsVerdict : JobData → CertData → Result (Unit {0}) CheckFault → Type 0
RowsVerdict job cert (Ok _) =
    RowsAreAccounted job cert.rows cert.notes (length cert.rows) × IsProved job cert
RowsVerdict job cert (Err fault) = (fault ≡ NoMemory) ⊎ IsRowsFault job cert fault

-- what a certificate comes to: it is good, or the first cause for which it isn't
abbrev pub CertAnswer : JobData → CertData → Result (Unit {0}) CheckFault → Type 0
CertAnswer job cert (Ok _) = HasGoodRows job cert × IsProved job cert
CertAnswer job cert (Err fault) = (fault ≡ NoMemory) ⊎ IsFault job cert fault

-- these are the rows and the claim of a certificate that is well formed for a valid job, and what is
-- kept of its notes
pub record AreRowParts (job : JobData) (claim : Worth) (rows : List RowHead) (notes : RowNotes)
    (cert : CertData) : Type 0 where
  pub valid : IsJob job
  pub form : IsWellFormed job cert
  pub claim_is : claim ≡ cert.claim
  pub rows_are : rows ≡ cert.rows
  pub notes_are : KeepsAll job cert notes
  pub table : notes.table ≡ job

-- and the steps
pub record AreParts (job : JobData) (claim : Worth) (steps : List Step) (rows : List RowHead)
    (notes : RowNotes) (cert : CertData) : Type 0 where
  pub parts : AreRowParts job claim rows notes cert
  pub steps_are : steps ≡ cert.steps
