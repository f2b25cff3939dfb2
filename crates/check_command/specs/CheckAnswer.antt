-- What `check` answers to a certificate alone.
use Rattle.std.specs.Prelude.{◌≡◌, ◌≢◌, ℕ, ◌≤◌, List, ◌++◌, codes, Result, Ok, Err}
use Rattle.cert_lines.specs.Lines.{number, spaced, text_line}
use Rattle.cert_check.specs.declared.verdict.Verdict.{Verdict}
use Rattle.cert_check.specs.declared.verdict.Verdict.TheVariants.{Optimal, NoPlan}
use Rattle.cert_check.specs.declared.fault.CheckFault.{CheckFault}
use Rattle.cert_check.specs.declared.fault.CheckFault.TheVariants.{NoMemory}
use Rattle.cert_check.specs.Checking.{CheckedData, IsAnswer, IsTrueOf}
use Rattle.cert_check.specs.FaultWords.{check_fault_words}
use Rattle.command_runner.specs.declared.status.Status.TheVariants as status
use Rattle.command_runner.specs.Answers.{AnswerData, one_text}
use Rattle.command_runner.specs.Fetching.{word_at}

-- `no plan`
unfoldable pub no_plan_line : List ℕ
no_plan_line = codes "no plan\n"

-- `optimal C`: a plan costs this, and none costs less
unfoldable pub optimal_line : ℕ → List ℕ
optimal_line cost = codes "optimal" ++ spaced (number cost) ++ codes "\n"

-- what may be claimed: a cost of at most 1,000,000,000 tenths of a second, or that there is no plan
abbrev pub IsClaim : Verdict → Type 0
IsClaim (Optimal cost) = cost ≤ 1000000000
IsClaim NoPlan = Unit {0}

-- the answer of an accepted certificate
abbrev pub verdict_answer : Verdict → AnswerData
verdict_answer (Optimal cost) = one_text status.Done (optimal_line cost)
verdict_answer NoPlan = one_text status.NoPlan no_plan_line

-- the answer of a refused one: the words of its first fault
abbrev pub cert_refused : CheckFault → AnswerData
cert_refused fault =
    one_text status.CertRefused (text_line (codes "certificate refused") (check_fault_words fault))

-- the answer is that of a certificate refused for this, which isn't want of memory
abbrev pub IsCertRefusal : CheckFault → AnswerData → Type 0
IsCertRefusal fault answer = (fault ≢ NoMemory) × (answer ≡ cert_refused fault)

-- the answer that a check of the certificate's text leads to
abbrev pub answer_of : Result CheckedData CheckFault → AnswerData
answer_of (Ok checked) = verdict_answer checked.verdict
answer_of (Err fault) = cert_refused fault

-- a check of the text comes to this; a claim that is accepted is true of its job
abbrev pub ChecksTo : List ℕ → Result CheckedData CheckFault → Type 0
ChecksTo text (Ok checked) = IsAnswer text (Ok checked) × IsTrueOf checked.job checked.verdict
ChecksTo text (Err fault) = IsAnswer text (Err fault)

-- the answer to a certificate's text
abbrev pub IsTextAnswer : List ℕ → AnswerData → Type 0
IsTextAnswer text answer =
    (checked : Result CheckedData CheckFault) × ChecksTo text checked × (answer ≡ answer_of checked)

-- the answer to the content of the certificate's file
abbrev pub IsCheckAnswer : List (List ℕ) → AnswerData → Type 0
IsCheckAnswer contents answer = IsTextAnswer (word_at contents 0) answer
