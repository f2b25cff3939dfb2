-- Each good certificate is confirmed.
use Rattle.std.specs.Prelude.{◌≡◌, ◌⊎◌, ℕ, ◌≤◌, List, length, Some, IfSome}
use Rattle.job_setup.specs.Setup.{JobData}
use Rattle.plan_cert.specs.Cert.{CertData}
use Rattle.cert_check.specs.Checking.{verdict_of, IsGoodText}
use Rattle.command_runner.specs.declared.status.Status.{Status}
use Rattle.command_runner.specs.Delivery.{IsCutShort, Outside}
use Rattle.command_runner.specs.Ends.{Leaves}
use Rattle.check_command.specs.CheckAnswer.{verdict_answer}

-- where the shelf tells that this name holds the text of a good certificate, of at most 2^30 bytes,
-- the run leaves its claim, unless it is cut short
abbrev pub ConfirmsNamed : List ℕ → Outside → Outside → Status → Type 0
ConfirmsNamed name before now status =
    IfSome before.shelf.content (λ content. (text : List ℕ) (job : JobData) (cert : CertData)
    → content.held name ≡ Some text → length text ≤ 1073741824 → IsGoodText text job cert
    → IsCutShort status ⊎ Leaves (verdict_answer (verdict_of cert.claim)) before now status)
