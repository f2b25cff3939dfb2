-- What `brake_draw CERT OUT` answers.
use Rattle.std.specs.Prelude.{◌≡◌, ◌≢◌, ◌⊎◌, ℕ, ◌-◌, ◌^◌, min, pos, List, [], ◌∷◌, ◌++◌, codes}
use Rattle.std.specs.Prelude.{length, Err}
use Rattle.std.specs.Fmt.{signed_decimal}
use Rattle.std.specs.List.{flat_map}
use Rattle.brake_base.specs.declared.stroke.Worth.{Worth}
use Rattle.brake_base.specs.declared.stroke.Worth.TheVariants.{Cost, Blocked}
use Rattle.job_setup.specs.Setup.{JobData}
use Rattle.handling_cost.specs.Claim.{HasNoPlan, IsLeastPlan, IsTrueClaim}
use Rattle.cert_lines.specs.Lines.{spaced}
use Rattle.plan_cert.specs.Cert.{CertData}
use Rattle.cert_check.specs.declared.fault.CheckFault.{CheckFault}
use Rattle.cert_check.specs.declared.fault.CheckFault.TheVariants.{NoMemory}
use Rattle.cert_check.specs.Checking.{IsGoodText, IsAnswer}
use Rattle.cert_check.specs.FaultWords.{check_fault_words}
use Rattle.refusal_words.specs.Sentences.{sentence}
use Rattle.sheet_page.specs.Page.{IsPlanPage, IsNoPlanPage}
use Rattle.command_runner.specs.declared.word_kind.WordKind.{WordKind}
use Rattle.command_runner.specs.declared.word_kind.WordKind.TheVariants.{Certificate, Output}
use Rattle.command_runner.specs.declared.status.Status.{Status}
use Rattle.command_runner.specs.declared.status.Status.TheVariants.{Done, NoPlan, CertRefused}
use Rattle.command_runner.specs.Answers.{AnswerData, one_text, one_stored}
use Rattle.command_runner.specs.Fetching.{word_at}
use Rattle.brake_draw.specs.Say.{sentence_line}

-- a certificate, and the name under which its page is stored
abbrev pub draw_form : List WordKind
draw_form = Certificate ∷ Output ∷ []

-- how many bytes a page tells that its certificate has; no file is so long that it isn't its length
abbrev pub told_size : List ℕ → ℕ
told_size text = min (length text) (2 ^ 63 - 1)

-- what a page shows of a good certificate: its steps, which are a plan of least cost; or that there
-- is no plan
abbrev pub IsPageFor : Worth → JobData → CertData → ℕ → List ℕ → Type 0
IsPageFor (Cost cost) job cert size page =
    IsLeastPlan job cost cert.steps × IsPlanPage job cert.steps cost size page
IsPageFor Blocked job cert size page = HasNoPlan job × IsNoPlanPage job cert size page

-- `drawn K`: so many strokes are drawn
unfoldable pub drawn_line : ℕ → List ℕ
drawn_line strokes = codes "drawn " ++ signed_decimal (pos strokes) ++ codes "\n"

unfoldable pub no_plan_line : List ℕ
no_plan_line = codes "no plan\n"

-- the line that is put for a claim, with so many steps
abbrev pub claim_line : Worth → ℕ → List ℕ
claim_line (Cost cost) steps = drawn_line steps
claim_line Blocked steps = no_plan_line

-- how a run ends for a claim
abbrev pub claim_status : Worth → Status
claim_status (Cost cost) = Done
claim_status Blocked = NoPlan

-- the answer that stores a page under the name and puts a line
abbrev pub stored_page : List ℕ → List ℕ → Status → List ℕ → AnswerData
stored_page name page status line = record {
  stored = one_stored name page;
  status = status;
  texts = line ∷ [];
}

-- the answer that stores the page under the name and puts the line of the certificate's claim
abbrev pub page_answer : List ℕ → CertData → List ℕ → AnswerData
page_answer name cert page =
    stored_page name page (claim_status cert.claim) (claim_line cert.claim (length cert.steps))

-- the text is that of a good certificate of the job, whose claim is this and is true
pub record IsProved (text : List ℕ) (job : JobData) (claim : Worth) : Type 0 where
  pub cert : CertData
  pub good : IsGoodText text job cert
  pub claims : cert.claim ≡ claim
  pub truth : IsTrueClaim job claim

-- the text is that of a good certificate, and the answer stores its page under the name
pub record IsDrawn (name text : List ℕ) (answer : AnswerData) : Type 0 where
  pub job : JobData
  pub cert : CertData
  pub good : IsGoodText text job cert
  pub page : List ℕ
  pub shows : IsPageFor cert.claim job cert (told_size text) page
  pub answers : answer ≡ page_answer name cert page

-- the line of a refusal, without its line feed: the words of its first fault, as `brake check` puts
-- them
unfoldable pub refusal_line : CheckFault → List ℕ
refusal_line fault = codes "certificate refused" ++ flat_map spaced (check_fault_words fault)

-- the line of a refusal, and its sentence behind it where it has one
unfoldable pub refusal_text : CheckFault → List ℕ
refusal_text fault =
    refusal_line fault ++ codes "\n" ++ sentence_line (sentence (refusal_line fault))

-- the answer to a certificate that is refused: nothing is stored
abbrev pub cert_refused : CheckFault → AnswerData
cert_refused fault = one_text CertRefused (refusal_text fault)

-- the answer is that of a certificate refused for this, which isn't want of memory
abbrev pub IsCertRefusal : CheckFault → AnswerData → Type 0
IsCertRefusal fault answer = (fault ≢ NoMemory) × (answer ≡ cert_refused fault)

-- the text isn't that of a good certificate, and this is the answer for its first fault
pub record IsRefusedWith (text : List ℕ) (answer : AnswerData) : Type 0 where
  pub fault : CheckFault
  pub first : IsAnswer text (Err fault)
  pub answers : IsCertRefusal fault answer

-- the answer to a certificate's text, whose page is stored under the name
abbrev pub IsTextAnswer : List ℕ → List ℕ → AnswerData → Type 0
IsTextAnswer name text answer = IsDrawn name text answer ⊎ IsRefusedWith text answer

-- the answer to the words and the content of the certificate's file
abbrev pub IsDrawAnswer : List (List ℕ) → List (List ℕ) → AnswerData → Type 0
IsDrawAnswer words contents answer = IsTextAnswer (word_at words 1) (word_at contents 0) answer
