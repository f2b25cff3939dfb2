-- A text is that of one job and one certificate, and a good text has one answer.
use Rattle.std.proofs.Common.{◌≡◌, inl, inr, List, ℕ, Result, Ok, Err, sym, ◌∙◌, ap, subst}
use Rattle.std.proofs.lemmas.Option.{same_Some}
use Rattle.std.specs.Result.{result_ok}
use Rattle.job_setup.specs.Setup.{JobData}
use Rattle.plan_cert.specs.Cert.{CertData}
use Rattle.plan_cert.specs.CertReading.{CertFileData, cert_file_of}
use Rattle.plan_cert.specs.GoodCert.{IsGoodCert}
use Rattle.plan_cert.proofs.Exactly.{text_gives}
use Rattle.cert_check.specs.declared.fault.CheckFault.{CheckFault}
use Rattle.cert_check.specs.declared.fault.CheckFault.TheVariants.{Cert, BadStep, BadCost, BadReason, NotClosed, TooLow, NoMemory, Unfinished}
use Rattle.cert_check.specs.Texts.{IsTextOfCert}
use Rattle.cert_check.specs.declared.verdict.Checked.{Checked}
use Rattle.cert_check.specs.Checking.{CheckedData, checked_data, verdict_of, IsGoodText, IsFaulty, IsAnswer, Answers, AcceptsGood}
use Rattle.cert_check.proofs.Truth.{fault_is_not_good}

same_file : (text : List ℕ) (f g : CertFileData) → cert_file_of text ≡ Ok f → cert_file_of text ≡ Ok g → f ≡ g
same_file text f g first second = same_Some f g (ap result_ok (sym first ∙ second))

abbrev file : JobData → CertData → ℕ → CertFileData
file job cert version = record { job = job; cert = cert; version = version }

-- the text of a certificate is read as this certificate
pub text_reads : (text : List ℕ) (job : JobData) (cert : CertData) (written : IsTextOfCert text job cert) → cert_file_of text ≡ Ok (file job cert written.version)
text_reads text job cert written = text_gives text (file job cert written.version) written.exact

module _ (text : List ℕ) (job other : JobData) (cert another : CertData) (first : IsTextOfCert text job cert) (second : IsTextOfCert text other another) where
  same : file job cert first.version ≡ file other another second.version
  same = same_file text (file job cert first.version) (file other another second.version) (text_reads text job cert first) (text_reads text other another second)

  -- a text is that of one job and one certificate
  pub one_text : (job ≡ other) × (cert ≡ another)
  one_text = (ap (λ (f : CertFileData). f.job) same, ap (λ (f : CertFileData). f.cert) same)

-- a good text has no fault
no_fault : (text : List ℕ) (job : JobData) (cert : CertData) (fault : CheckFault) → IsGoodText text job cert → IsFaulty text fault → ⊥
no_fault text job cert fault good faulty =
    let same = one_text text faulty.job job faulty.cert cert faulty.written good.written in
    let exact = faulty.written.exact in
    fault_is_not_good faulty.job exact.job faulty.cert exact.form fault faulty.cause
    (subst (λ (c : CertData). IsGoodCert faulty.job c) (sym same.1) (subst (λ (j : JobData). IsGoodCert j cert) (sym same.0) good.good))

-- the text of a good certificate is accepted, with its claim and its job
pub good_text_accepted : (text : List ℕ) (job : JobData) (cert : CertData) (checked : Result CheckedData CheckFault) → IsGoodText text job cert → IsAnswer text checked
    → checked ≡ Ok (record { verdict = verdict_of cert.claim; job = job })
good_text_accepted text job cert (Ok checked) good is =
    let same = one_text text checked.job job is.cert cert is.good.written good.written in
    let verdict = is.verdict ∙ ap (λ (c : CertData). verdict_of c.claim) same.1 in
    λ i. Ok (record { verdict = verdict i; job = same.0 i })
good_text_accepted text job cert (Err (Cert fault)) good is = absurd (is.no_text job cert good.written)
good_text_accepted text job cert (Err (BadStep index fault)) good is = absurd (no_fault text job cert _ good is)
good_text_accepted text job cert (Err BadCost) good is = absurd (no_fault text job cert _ good is)
good_text_accepted text job cert (Err (BadReason row action)) good is = absurd (no_fault text job cert _ good is)
good_text_accepted text job cert (Err (NotClosed row action)) good is = absurd (no_fault text job cert _ good is)
good_text_accepted text job cert (Err TooLow) good is = absurd (no_fault text job cert _ good is)
good_text_accepted text job cert (Err NoMemory) good is = absurd (no_fault text job cert _ good is)
good_text_accepted text job cert (Err Unfinished) good is = absurd (no_fault text job cert _ good is)

not_accepted : (fault : CheckFault) (checked : CheckedData) → Err fault ≡ Ok checked → ⊥
not_accepted fault checked same = cc

-- so what answers the text accepts it, unless memory ran out
pub accepts_good : (text : List ℕ) (result : Result Checked CheckFault) → Answers text result → AcceptsGood text result
accepts_good text (Ok checked) answer job cert good =
    same_Some (checked_data checked) (record { verdict = verdict_of cert.claim; job = job }) (ap result_ok (good_text_accepted text job cert (Ok (checked_data checked)) good answer))
accepts_good text (Err fault) (inl memory) job cert good = memory
accepts_good text (Err fault) (inr is) job cert good = absurd (not_accepted fault _ (good_text_accepted text job cert (Err fault) good is))
