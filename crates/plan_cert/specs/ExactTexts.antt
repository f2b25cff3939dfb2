-- Which texts are read: those of a certificate or of a table of a valid job, each in its one
-- spelling.
use Rattle.std.specs.Prelude.{◌≡◌, ◌⊎◌, ℕ, List, Result, Ok, Err}
use Rattle.job_setup.specs.Setup.{JobData}
use Rattle.job_setup.specs.ValidJob.{IsJob}
use Rattle.cert_lines.specs.declared.row_head.RowHead.{RowHead}
use Rattle.plan_lines.specs.declared.note.Note.{Note}
use Rattle.plan_cert.specs.declared.cert_reading.CertFile.{CertFile}
use Rattle.plan_lines.specs.declared.item.CertFault.{CertFault}
use Rattle.plan_lines.specs.declared.item.CertFault.TheVariants.{NoMemory}
use Rattle.plan_cert.specs.WellFormed.{AreRows, IsWellFormed}
use Rattle.plan_cert.specs.Cert.{CertData}
use Rattle.plan_cert.specs.CertText.{cert_text1, cert_text2, table_text}
use Rattle.plan_cert.specs.FirstVersion.{HasText1}
use Rattle.cert_lines.specs.JobText.{job_text}
use Rattle.plan_cert.specs.CertReading.{CertFileData, cert_file_data, cert_file_of}

-- of all valid jobs this one alone has the text: one text, one job
abbrev pub IsOnlyJobOf : JobData → List ℕ → Type 0
IsOnlyJobOf job text = (other : JobData) → IsJob other → job_text other ≡ text → other ≡ job

-- the text is the one that the certificate of the job has in the version
abbrev pub IsTextIn : ℕ → JobData → CertData → List ℕ → Type 0
IsTextIn version job cert text =
    ((version ≡ 2) × (text ≡ cert_text2 job cert))
    ⊎ ((version ≡ 1) × HasText1 job cert × (text ≡ cert_text1 job cert))

-- the job is valid, the certificate is well formed for it, and the text is the one that they have
-- in the version
pub record IsTextOf (file : CertFileData) (text : List ℕ) : Type 0 where
  pub job : IsJob file.job
  pub form : IsWellFormed file.job file.cert
  pub spelled : IsTextIn file.version file.job file.cert text

-- the job is valid, the rows and notes are well formed for it, and the text is the one that they
-- have
pub record IsTableText (job : JobData) (heads : List RowHead) (notes : List Note)
    (text : List ℕ) : Type 0 where
  pub valid : IsJob job
  pub rows : AreRows job heads notes
  pub spelled : text ≡ table_text job heads notes

-- an accepted text is that of the certificate that it gives; one that is refused for another cause
-- than memory is no certificate's
abbrev pub IsExact : List ℕ → Result CertFile CertFault → Type 0
IsExact text (Ok file) = IsTextOf (cert_file_data file) text
IsExact text (Err fault) = (fault ≡ NoMemory) ⊎ ((file : CertFileData) → IsTextOf file text → ⊥)

-- a text that is a certificate's gives this certificate
abbrev pub GivesBack : List ℕ → Type 0
GivesBack text = (file : CertFileData) → IsTextOf file text → cert_file_of text ≡ Ok file
