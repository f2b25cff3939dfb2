-- From what the steps, the notes and the claim come to, to what the text comes to.
use Rattle.std.proofs.Common.{◌≡◌, ◌⊎◌, inl, inr, ℕ, List, length, Result, Ok, Err, refl, sym, ap, subst, arith}
use Rattle.brake_base.specs.declared.stroke.Worth.{Worth}
use Rattle.brake_base.specs.declared.stroke.Worth.TheVariants.{Cost, Blocked}
use Rattle.brake_base.specs.Worths.{IsAtMost, plus}
use Rattle.job_setup.specs.Setup.{JobData}
use Rattle.job_setup.specs.ValidJob.{IsJob}
use Rattle.handling_cost.specs.Plan.{start}
use Rattle.handling_cost.specs.Good.{AreClaimed}
use Rattle.cert_lines.specs.declared.row_head.RowHead.{RowHead}
use Rattle.cert_lines.specs.declared.format.TextKind.TheVariants.{Certificate}
use Rattle.plan_cert.specs.Cert.{CertData}
use Rattle.plan_cert.specs.WellFormed.{IsWellFormed}
use Rattle.plan_cert.specs.GoodCert.{IsGoodCert}
use Rattle.cert_check.specs.declared.fault.CheckFault.{CheckFault}
use Rattle.cert_check.specs.declared.fault.CheckFault.TheVariants.{Cert, BadStep, BadCost, BadReason, NotClosed, TooLow, NoMemory, Unfinished}
use Rattle.cert_check.specs.declared.read_cert.ReadCert.{ReadCert}
use Rattle.cert_check.specs.declared.row_notes.RowNotes.{RowNotes}
use Rattle.cert_check.specs.RowNotes.{HasNotes}
use Rattle.cert_check.specs.Texts.{IsTextOfCert}
use Rattle.cert_check.specs.ReadCert.{IsRead, ReadAnswer}
use Rattle.cert_check.specs.Steps.{AreFaulty}
use Rattle.plan_cert.specs.RowFaults.{RowsAreAccounted}
use Rattle.cert_check.specs.Checking.{IsProved}
use Rattle.cert_check.specs.Rows.{ProvesAfter, ProvesAnswer, RowsAnswer}
use Rattle.cert_check.specs.Checking.{CheckedData, IsFault, IsRefused, IsAnswer, IsRowsFault, RowsVerdict, CertAnswer, AreParts, AreRowParts, verdict_of}
use Rattle.cert_check.proofs.Truth.{is_good}
use Rattle.cert_check.proofs.CertTexts.{no_cert_text, cert_given}

-- the job of a certificate's text is valid, and the certificate is well formed
pub text_form : (text : List ℕ) (job : JobData) (cert : CertData) → IsTextOfCert text job cert → IsJob job × IsWellFormed job cert
text_form text job cert written = (written.exact.job, written.exact.form)

module _ (job : JobData) (cert : CertData) where
  -- ---- the claim
  same_worth : (worth : Worth) → plus 0 worth ≡ worth
  same_worth (Cost n) = ap Cost (omega arith)
  same_worth Blocked = refl

  proved_from : ProvesAfter job cert.rows start 0 cert.claim → IsProved job cert
  proved_from (worth, stands, enough) = (worth, stands, subst (IsAtMost cert.claim) (same_worth worth) enough)

  proved_back : IsProved job cert → ProvesAfter job cert.rows start 0 cert.claim
  proved_back (worth, stands, enough) = (worth, stands, subst (IsAtMost cert.claim) (sym (same_worth worth)) enough)

  pub claim_answer : (result : Result (Unit {0}) CheckFault) → RowsAreAccounted job cert.rows cert.notes (length cert.rows) → ProvesAnswer job cert.rows cert.claim result → RowsVerdict job cert result
  claim_answer (Ok done) rows answer = (rows, proved_from answer)
  claim_answer (Err TooLow) rows answer = inr (rows, λ proved. answer (proved_back proved))
  claim_answer (Err _) rows answer = absurd answer

  -- ---- the rows
  pub rows_refused : (fault : CheckFault) → RowsAnswer job cert.rows cert.notes (Err fault) → RowsVerdict job cert (Err fault)
  rows_refused (BadReason row action) answer = inr answer
  rows_refused (NotClosed row action) answer = inr answer
  rows_refused _ answer = absurd answer

  -- ---- the certificate
  rows_fault : (fault : CheckFault) → AreClaimed job cert.claim cert.steps → IsRowsFault job cert fault → IsFault job cert fault
  rows_fault (BadReason row action) claimed is = (claimed, is)
  rows_fault (NotClosed row action) claimed is = (claimed, is)
  rows_fault TooLow claimed is = (record { claimed = claimed; rows = is.0 }, is.1)
  rows_fault _ claimed is = absurd is

  pub cert_answer : (result : Result (Unit {0}) CheckFault) → AreClaimed job cert.claim cert.steps → RowsVerdict job cert result → CertAnswer job cert result
  cert_answer (Ok done) claimed answer = (record { claimed = claimed; rows = answer.0 }, answer.1)
  cert_answer (Err fault) claimed (inl memory) = inl memory
  cert_answer (Err fault) claimed (inr is) = inr (rows_fault fault claimed is)

  steps_fault : (fault : CheckFault) → AreFaulty job cert.claim cert.steps fault → IsFault job cert fault
  steps_fault (BadStep index fault) is = is
  steps_fault Unfinished is = is
  steps_fault BadCost is = is
  steps_fault _ is = absurd is

  pub steps_refused : (fault : CheckFault) → AreFaulty job cert.claim cert.steps fault → CertAnswer job cert (Err fault)
  steps_refused fault is = inr (steps_fault fault is)

-- ---- the text
faulty : (text : List ℕ) (job : JobData) (cert : CertData) → IsTextOfCert text job cert → (fault : CheckFault) → IsFault job cert fault → IsRefused text fault
faulty text job cert written (Cert fault) is = absurd is
faulty text job cert written (BadStep index fault) is = record { job = job; cert = cert; written = written; cause = is }
faulty text job cert written BadCost is = record { job = job; cert = cert; written = written; cause = is }
faulty text job cert written (BadReason row action) is = record { job = job; cert = cert; written = written; cause = is }
faulty text job cert written (NotClosed row action) is = record { job = job; cert = cert; written = written; cause = is }
faulty text job cert written TooLow is = record { job = job; cert = cert; written = written; cause = is }
faulty text job cert written NoMemory is = absurd is
faulty text job cert written Unfinished is = record { job = job; cert = cert; written = written; cause = is }

pub text_refused : (text : List ℕ) (job : JobData) (cert : CertData) → IsTextOfCert text job cert → (fault : CheckFault) → CertAnswer job cert (Err fault) → (fault ≡ NoMemory) ⊎ IsAnswer text (Err fault)
text_refused text job cert written fault (inl memory) = inl memory
text_refused text job cert written fault (inr is) = inr (faulty text job cert written fault is)

pub text_accepted : (text : List ℕ) (job : JobData) (cert : CertData) → IsTextOfCert text job cert → CertAnswer job cert (Ok tt) → (checked : CheckedData) → checked.job ≡ job → checked.verdict ≡ verdict_of cert.claim → IsAnswer text (Ok checked)
text_accepted text job cert written answer checked jobs verdict =
    let form = text_form text job cert written in
    record {
      cert = cert;
      good = record {
        written = subst (λ (j : JobData). IsTextOfCert text j cert) (sym jobs) written;
        good = subst (λ (j : JobData). IsGoodCert j cert) (sym jobs) (is_good job form.0 cert form.1 answer.0 answer.1);
      };
      verdict = verdict;
    }

pub text_unread : (text : List ℕ) (fault : CheckFault) → ReadAnswer Certificate text (Err fault) → (fault ≡ NoMemory) ⊎ IsAnswer text (Err fault)
text_unread text (Cert fault) answer = inr (no_cert_text text fault answer)
text_unread text NoMemory answer = inl refl
text_unread text _ answer = absurd answer

-- ---- what was read
-- of a certificate that was read these are all parts
pub parts_read : (text : List ℕ) (read : ReadCert) (is : IsRead Certificate text read) → AreParts read.job read.claim read.steps.items read.rows.items read.notes is.cert
parts_read text read is =
    let made = cert_given text read is in
    record {
      parts = record {
        valid = made.valid;
        form = made.form;
        claim_is = is.has.claim;
        rows_are = is.has.rows;
        notes_are = is.kept made;
        table = is.testing.table;
      };
      steps_are = is.has.steps;
    }

-- and what is kept of its notes
pub notes_read : (job : JobData) (claim : Worth) (rows : List RowHead) (notes : RowNotes) (cert : CertData) → AreRowParts job claim rows notes cert → HasNotes job cert.rows cert.notes notes
notes_read job claim rows notes cert are = record { form = are.form.rows; noted = are.notes_are.noted; first = are.notes_are.first }
