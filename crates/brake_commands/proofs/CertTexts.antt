-- The text of a certificate that is stored is that of its job and of it.
use Rattle.std.proofs.Common.{inl, refl}
use Rattle.job_setup.specs.Setup.{JobData}
use Rattle.job_setup.specs.ValidJob.{IsJob}
use Rattle.plan_cert.specs.Cert.{CertData}
use Rattle.plan_cert.specs.CertText.{cert_text2}
use Rattle.plan_cert.specs.WellFormed.{IsWellFormed}
use Rattle.cert_check.specs.Texts.{IsTextOfCert}

pub text_is : (job : JobData) (cert : CertData) → IsJob job → IsWellFormed job cert → IsTextOfCert (cert_text2 job cert) job cert
text_is job cert valid form = record { version = 2; exact = record { job = valid; form = form; spelled = inl (refl, refl) } }
