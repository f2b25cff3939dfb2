-- The words by which a refusal of a certificate is told: its number, and then what it names.
use Rattle.std.specs.Prelude.{ℕ, List, [], ◌∷◌}
use Rattle.cert_lines.specs.Lines.{number, reason_words}
use Rattle.plan_lines.specs.declared.item.CertFault.{CertFault}
use Rattle.plan_lines.specs.declared.item.CertFault.TheVariants as cert
use Rattle.cert_check.specs.declared.fault.StepFault.{StepFault}
use Rattle.cert_check.specs.declared.fault.StepFault.TheVariants.{AlreadyFolded, NotLead, Hit}
use Rattle.cert_check.specs.declared.fault.StepFault.TheVariants.{BadGauge}
use Rattle.cert_check.specs.declared.fault.CheckFault.{CheckFault}
use Rattle.cert_check.specs.declared.fault.CheckFault.TheVariants.{Cert, BadStep, BadCost}
use Rattle.cert_check.specs.declared.fault.CheckFault.TheVariants.{BadReason, NotClosed, TooLow}
use Rattle.cert_check.specs.declared.fault.CheckFault.TheVariants.{NoMemory, Unfinished}

abbrev pub cert_fault_words : CertFault → List (List ℕ)
cert_fault_words (cert.BadLine line) = number 1 ∷ number line ∷ []
cert_fault_words cert.Unended = number 2 ∷ []
cert_fault_words cert.Trailing = number 3 ∷ []
cert_fault_words cert.BadJob = number 4 ∷ []
cert_fault_words cert.NoMemory = number 5 ∷ []

abbrev pub step_fault_words : StepFault → List (List ℕ)
step_fault_words AlreadyFolded = number 1 ∷ []
step_fault_words (Hit reason) = number 2 ∷ reason_words reason
step_fault_words BadGauge = number 3 ∷ []
step_fault_words NotLead = number 4 ∷ []

-- an inner refusal stands behind the number of the outer one
abbrev pub check_fault_words : CheckFault → List (List ℕ)
check_fault_words (Cert fault) = number 1 ∷ cert_fault_words fault
check_fault_words (BadStep index fault) = number 2 ∷ number index ∷ step_fault_words fault
check_fault_words BadCost = number 3 ∷ []
check_fault_words (BadReason row action) = number 4 ∷ number row ∷ number action ∷ []
check_fault_words (NotClosed row action) = number 5 ∷ number row ∷ number action ∷ []
check_fault_words TooLow = number 6 ∷ []
check_fault_words NoMemory = number 7 ∷ []
check_fault_words Unfinished = number 8 ∷ []
