-- Which certificate a text is.
use Rattle.std.specs.Prelude.{◌≡◌, ℕ, List, Err}
use Rattle.job_setup.specs.Setup.{JobData}
use Rattle.plan_lines.specs.declared.item.CertFault.{CertFault}
use Rattle.plan_cert.specs.Cert.{CertData}
use Rattle.plan_cert.specs.CertReading.{cert_file_of}
use Rattle.plan_cert.specs.ExactTexts.{IsTextOf}

-- the text is, byte for byte, the one of a certificate that is well formed for a valid job, in one
-- version or the other
pub record IsTextOfCert (text : List ℕ) (job : JobData) (cert : CertData) : Type 0 where
  pub version : ℕ
  pub exact : IsTextOf (record { job = job; cert = cert; version = version }) text

-- the text is no certificate's, and the reading refuses it first for this
pub record IsRefusedFor (text : List ℕ) (fault : CertFault) : Type 0 where
  pub reads : cert_file_of text ≡ Err fault
  pub no_text : (job : JobData) (cert : CertData) → IsTextOfCert text job cert → ⊥
