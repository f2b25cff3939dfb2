-- A certificate's text that was read or refused.
use Rattle.std.proofs.Common.{◌≡◌, ℕ, List, [], ◌∷◌, Result, Ok, Err, sym, ◌∙◌, ap, subst}
use Rattle.job_setup.specs.Setup.{JobData}
use Rattle.plan_lines.specs.declared.item.Item.{Item}
use Rattle.plan_lines.specs.declared.item.Item.TheVariants as given
use Rattle.plan_lines.specs.declared.item.CertFault.{CertFault}
use Rattle.cert_lines.specs.declared.format.TextKind.TheVariants.{Certificate}
use Rattle.plan_cert.specs.Cert.{CertData}
use Rattle.plan_lines.specs.Items.{items}
use Rattle.plan_cert.specs.CertReading.{CertFileData, no_cert, version_in, cert_of, with_job, file_of, cert_file_of}
use Rattle.cert_lines.specs.declared.format.TextKind.{TextKind}
use Rattle.plan_cert.proofs.Collecting.{file_is}
use Rattle.plan_cert.proofs.Exactly.{read_file, text_of_given}
use Rattle.cert_check.specs.declared.read_cert.ReadCert.{ReadCert}
use Rattle.cert_check.specs.Texts.{IsTextOfCert, IsRefusedFor}
use Rattle.cert_check.specs.ReadCert.{AreRefused, IsGivenBy, IsRead, IsRowFirst}
use Rattle.cert_check.proofs.ReadLemmas.{cert_first}
use Rattle.cert_check.proofs.Refusing.{refused_for}

abbrev file_by : List ℕ → JobData → Result CertData CertFault → Result CertFileData CertFault
file_by text job (Ok cert) = Ok (record { job = job; cert = cert; version = version_in text })
file_by text job (Err fault) = Err fault

abbrev refusal : CertFault → Result CertFileData CertFault
refusal fault = Err fault

-- ---- a text that was refused
file_refused : (text : List ℕ) (answers : List (Result Item CertFault)) (fault : CertFault) → AreRefused answers fault → with_job text answers ≡ Err fault
unfolding with_job
file_refused text [] fault is = absurd is
file_refused text (Err own ∷ more) fault is = ap refusal is
file_refused text (Ok (given.Job job) ∷ more) fault is = ap (file_by text job) is
file_refused text (Ok (given.Claim claim) ∷ more) fault is = absurd is
file_refused text (Ok (given.Step step) ∷ more) fault is = absurd is
file_refused text (Ok (given.Row head) ∷ more) fault is = absurd is
file_refused text (Ok (given.Note action reason) ∷ more) fault is = absurd is
file_refused text (Ok given.End ∷ more) fault is = absurd is

pub text_refused : (kind : TextKind) (text : List ℕ) (fault : CertFault) → AreRefused (items kind text) fault → file_of kind text ≡ Err fault
unfolding file_of
text_refused kind text fault is = file_refused text (items kind text) fault is

pub no_cert_text : (text : List ℕ) (fault : CertFault) → AreRefused (items Certificate text) fault → IsRefusedFor text fault
no_cert_text text fault is = refused_for text fault (text_refused Certificate text fault is)

-- ---- a text that was read
module _ (text : List ℕ) (read : ReadCert) (is : IsRead Certificate text read) where
  abbrev file : CertFileData
  file = record { job = read.job; cert = is.cert; version = version_in text }

  gives : cert_file_of text ≡ Ok file
  gives = file_is Certificate text read.job is.behind_job is.cert is.starts is.completes

  pub cert_written : IsTextOfCert text read.job is.cert
  cert_written = record { version = version_in text; exact = text_of_given text file gives }

  pub cert_given : IsGivenBy read.job is.cert is.behind_job
  cert_given =
      let exact = text_of_given text file gives in
      let from = read_file text file gives in
      record {
        valid = exact.job;
        form = exact.form;
        completes = is.completes;
        row_first = subst IsRowFirst (sym from.items ∙ is.starts) (cert_first read.job is.cert);
      }
