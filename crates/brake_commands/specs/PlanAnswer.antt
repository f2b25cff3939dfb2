-- What `plan` answers.
use Rattle.std.specs.Prelude.{◌≡◌, ℕ, ◌<◌, ◌≤◌, List, [], ◌∷◌, ◌++◌, length, codes, Option, Some}
use Rattle.std.specs.Prelude.{None, Ok}
use Rattle.brake_base.specs.declared.stroke.Worth.{Worth}
use Rattle.brake_base.specs.declared.stroke.Worth.TheVariants.{Cost, Blocked}
use Rattle.brake_base.specs.declared.stroke.Step.{Step}
use Rattle.unfolder.specs.Blank.{BlankData, blank_of_part}
use Rattle.unfolder.specs.Fold.{FoldsBack}
use Rattle.job_setup.specs.Setup.{JobData}
use Rattle.job_setup.specs.ValidJob.{IsJob}
use Rattle.handling_cost.specs.Plan.{start}
use Rattle.handling_cost.specs.Reach.{ReachIsAbove}
use Rattle.setup_sheet.specs.Sheets.{blank_text, setup_text}
use Rattle.setup_sheet.specs.OrderSheet.{order_text}
use Rattle.cert_lines.specs.Lines.{number, spaced}
use Rattle.plan_cert.specs.Cert.{CertData}
use Rattle.plan_cert.specs.CertText.{cert_text2}
use Rattle.plan_cert.specs.GoodCert.{IsThriftyCert}
use Rattle.bb_search.specs.declared.written.WrittenCert.{WrittenCert}
use Rattle.bb_search.specs.Outcomes.{HaveFirstGauges}
use Rattle.bb_search.specs.Certificates.{IsWrittenAs}
use Rattle.command_runner.specs.declared.status.Status.{Status}
use Rattle.command_runner.specs.declared.status.Status.TheVariants as status
use Rattle.command_runner.specs.Answers.{StoredData, AnswerData, one_text, one_stored}
use Rattle.brake_commands.specs.JobAnswer.{AnswersJob, job_of_files}

-- `no plan`
unfoldable pub no_plan_line : List ℕ
no_plan_line = codes "no plan\n"

-- `spent N`: more keys are reached than the budget that was given
unfoldable pub spent_line : ℕ → List ℕ
spent_line budget = codes "spent" ++ spaced (number budget) ++ codes "\n"

-- how a run ends whose claim is this
abbrev pub claim_status : Worth → Status
claim_status (Cost cost) = status.Done
claim_status Blocked = status.NoPlan

-- the last text that is put: the order of the steps, or that there is no plan
abbrev pub last_text : JobData → Worth → List Step → List ℕ
last_text job (Cost cost) steps = order_text job steps
last_text job Blocked steps = no_plan_line

-- the answer by a certificate: its text is stored under the name, and the sheets are put, the first
-- of which is given
abbrev pub cert_answer : List ℕ → JobData → List ℕ → CertData → AnswerData
cert_answer name job sheet cert = record {
  stored = record { name = name; text = cert_text2 job cert } ∷ [];
  status = claim_status cert.claim;
  texts = sheet ∷ setup_text job ∷ last_text job cert.claim cert.steps ∷ [];
}

-- a certificate that `plan` may store: it proves its claim with rows that were all asked for, and
-- the gauge of each step is the first that is legal
pub record IsPlanCert (job : JobData) (cert : CertData) : Type 0 where
  pub proves : IsThriftyCert job cert
  pub gauges : HaveFirstGauges job start cert.steps

-- it has at most as many rows as the budget that was given, and no more than there are keys that
-- are reached
pub record HasFewRows (budget : Option ℕ) (job : JobData) (cert : CertData) : Type 0 where
  pub within : (most : ℕ) → budget ≡ Some most → length cert.rows ≤ most
  pub reach : (count : ℕ) → count < length cert.rows → ReachIsAbove job count

-- the blank of a job, which folded at every bend is the designed part
pub record IsBlankOf (job : JobData) (blank : BlankData) : Type 0 where
  pub value : blank_of_part job.part job.q ≡ Ok blank
  pub folds_back : FoldsBack job.part job.q blank

-- the answer is that by such a certificate, with rows within the budget, and the job's blank; the
-- job is valid
pub record IsCertAnswer (name : List ℕ) (budget : Option ℕ) (job : JobData) (answer : AnswerData)
    : Type 0 where
  pub valid : IsJob job
  pub blank : BlankData
  pub cert : CertData
  pub unfolds : IsBlankOf job blank
  pub proves : IsPlanCert job cert
  pub few_rows : HasFewRows budget job cert
  pub is_answer : answer ≡ cert_answer name job (blank_text job.part blank) cert

-- what `plan` answers to a job: that by a certificate, or that a budget that was given isn't enough
pub data IsPlanned (name : List ℕ) (budget : Option ℕ) (job : JobData) (answer : AnswerData)
    : Type 0 where
  by_cert : IsCertAnswer name budget job answer → IsPlanned name budget job answer
  spent : (most : ℕ) → budget ≡ Some most → ReachIsAbove job most
      → answer ≡ one_text status.Spent (spent_line most) → IsPlanned name budget job answer

-- it is written of a certificate that `plan` may store, with rows within the budget
abbrev pub IsWrittenPlan : Option ℕ → JobData → WrittenCert → Type 0
IsWrittenPlan budget job written =
    (cert : CertData) × IsPlanCert job cert × HasFewRows budget job cert
    × IsWrittenAs job cert written

-- the answer by what is written of a certificate, with the first sheet that is given
abbrev pub written_answer : List ℕ → JobData → List ℕ → WrittenCert → AnswerData
written_answer name job sheet written = record {
  stored = one_stored name written.text;
  status = claim_status written.claim;
  texts = sheet ∷ setup_text job ∷ last_text job written.claim written.steps.items ∷ [];
}

-- what is left of it to put once its text is stored
abbrev pub written_rest : JobData → List ℕ → WrittenCert → AnswerData
written_rest job sheet written = record (written_answer [] job sheet written) { stored = [] }

-- these are the texts that an answer stores
abbrev pub IsStoredOf : (AnswerData → Type 0) → List StoredData → Type 0
IsStoredOf IsOne stored = (answer : AnswerData) × IsOne answer × (stored ≡ answer.stored)

-- what a search within a budget finds: such a certificate, or that the budget isn't enough
abbrev pub Finds : JobData → ℕ → Option WrittenCert → Type 0
Finds job budget (Some written) = IsWrittenPlan (Some budget) job written
Finds job budget None = ReachIsAbove job budget

-- the text is the blank sheet of the job
abbrev pub IsBlankSheet : JobData → List ℕ → Type 0
IsBlankSheet job text =
    (blank : BlankData) × IsBlankOf job blank × (text ≡ blank_text job.part blank)

-- the answer to the contents of the part's file, the tools file and the machine file
abbrev pub IsPlanAnswer : List ℕ → Option ℕ → List (List ℕ) → AnswerData → Type 0
IsPlanAnswer name budget contents answer =
    AnswersJob (IsPlanned name budget) (job_of_files 0 contents) answer
