-- From what a check comes to, to its answer.
use Rattle.std.proofs.Common.{◌≡◌, ◌⊎◌, inl, inr, ℕ, List, [], ◌∷◌, Result, Ok, Err, ap, ◌∙◌}
use Rattle.brake_base.specs.declared.stroke.Worth.{Worth}
use Rattle.brake_base.specs.declared.stroke.Worth.TheVariants.{Cost, Blocked}
use Rattle.cert_lines.specs.Lines.{IsWorth}
use Rattle.job_setup.specs.Setup.{JobData}
use Rattle.plan_cert.specs.Cert.{CertData}
use Rattle.cert_check.specs.declared.fault.CheckFault.{CheckFault}
use Rattle.cert_check.specs.declared.fault.CheckFault.TheVariants as check
use Rattle.cert_check.specs.Checking.{CheckedData, IsAccepted, IsAnswer, IsGoodText, verdict_of}
use Rattle.cert_check.proofs.Accepting.{good_text_accepted}
use Rattle.command_runner.specs.Answers.{AnswerData}
use Rattle.check_command.specs.CheckAnswer.{IsClaim, ChecksTo, verdict_answer, answer_of, IsCheckAnswer}

worth_claim : (worth : Worth) → IsWorth worth → IsClaim (verdict_of worth)
worth_claim (Cost cost) small = small
worth_claim Blocked small = tt

-- what is accepted may be claimed
pub accepted_claim : (text : List ℕ) (checked : CheckedData) → IsAccepted text checked → IsClaim checked.verdict
accepted_claim text checked is = rw is.verdict (worth_claim is.cert.claim is.good.good.form.claim)

-- a refusal other than for want of memory is what a check comes to
pub refused_is : (text : List ℕ) (fault : CheckFault) → (fault ≡ check.NoMemory) ⊎ IsAnswer text (Err fault) → (fault ≡ check.NoMemory → ⊥) → IsAnswer text (Err fault)
refused_is text fault (inl memory) other = absurd (other memory)
refused_is text fault (inr is) other = is

-- what a check comes to is its answer
checks_answer : (text : List ℕ) (checked : Result CheckedData CheckFault) → ChecksTo text checked → IsAnswer text checked
checks_answer text (Ok checked) checks = checks.0
checks_answer text (Err fault) checks = checks

-- the claim is the one answer to a good certificate's text
pub good_answer : (text : List ℕ) (job : JobData) (cert : CertData) (answer : AnswerData) → IsGoodText text job cert → IsCheckAnswer (text ∷ []) answer → answer ≡ verdict_answer (verdict_of cert.claim)
good_answer text job cert answer good checks = checks.2 ∙ ap answer_of (good_text_accepted text job cert checks.0 good (checks_answer text checks.0 checks.1))
