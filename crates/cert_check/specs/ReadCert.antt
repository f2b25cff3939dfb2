-- What the reading of a text comes to: all of a certificate, but of its notes only what is kept of
-- them. A table is read as a certificate that claims nothing.
use Rattle.std.specs.Prelude.{◌≡◌, ◌⊎◌, ℕ, ◌+◌, ◌-◌, ◌<◌, Bool, true, false, List, [], ◌∷◌, length}
use Rattle.std.specs.Prelude.{slice_get, Some, Result, Ok, Err}
use Rattle.job_setup.specs.Setup.{JobData}
use Rattle.job_setup.specs.ValidJob.{IsJob}
use Rattle.cert_lines.specs.declared.row_head.RowHead.{RowHead}
use Rattle.plan_lines.specs.declared.note.Note.{Note}
use Rattle.plan_lines.specs.declared.item.Item.{Item}
use Rattle.plan_lines.specs.declared.item.CertFault.{CertFault}
use Rattle.plan_cert.specs.Cert.{CertData}
use Rattle.plan_lines.specs.declared.line_place.LinePlace.{LinePlace}
use Rattle.plan_lines.specs.Reading.{Reading, LeavesAt}
use Rattle.plan_lines.specs.declared.item.Item.TheVariants as given
use Rattle.cert_lines.specs.declared.format.TextKind.{TextKind}
use Rattle.plan_lines.specs.Items.{items}
use Rattle.plan_cert.specs.WellFormed.{IsWellFormed}
use Rattle.plan_cert.specs.CertReading.{no_cert, cert_of, with_item, answers_left, AnswersLeft}
use Rattle.cert_check.specs.declared.fault.CheckFault.{CheckFault}
use Rattle.cert_check.specs.declared.fault.CheckFault.TheVariants.{Cert, NoMemory}
use Rattle.cert_check.specs.declared.read_cert.ReadCert.{ReadCert}
use Rattle.cert_check.specs.declared.row_notes.RowNotes.{RowNotes}
use Rattle.cert_check.specs.RowNotes.{AreNoted, IsFirstUnsound, IsTesting}

-- it has all of the certificate but the notes
pub record HasParts (read : ReadCert) (cert : CertData) : Type 0 where
  pub claim : read.claim ≡ cert.claim
  pub steps : read.steps.items ≡ cert.steps
  pub rows : read.rows.items ≡ cert.rows

-- what is kept of the notes of the first rows of a certificate, and the mask of the last of them
pub record KeepsNotes (job : JobData) (all rows : List RowHead) (read : List Note)
    (notes : RowNotes) : Type 0 where
  pub noted : AreNoted job rows read notes.sets.items
  pub first : IsFirstUnsound job all read notes.unsound
  pub mask :
      (head : RowHead) → slice_get rows (length rows - 1) ≡ Some head
      → head.key.mask ≡ notes.folded.mask

-- what is kept of all its notes
abbrev pub KeepsAll : JobData → CertData → RowNotes → Type 0
KeepsAll job cert notes = KeepsNotes job cert.rows cert.rows cert.notes notes

-- no note stands before the first row
abbrev pub IsRowFirst : List (Result Item CertFault) → Type 0
IsRowFirst [] = Unit {0}
IsRowFirst (Ok (given.Row head) ∷ more) = Unit {0}
IsRowFirst (Ok (given.Note action reason) ∷ more) = ⊥
IsRowFirst (answer ∷ more) = IsRowFirst more

-- a certificate that is well formed for a valid job, and the answers behind the job that make it up
pub record IsGivenBy (job : JobData) (cert : CertData) (answers : List (Result Item CertFault))
    : Type 0 where
  pub valid : IsJob job
  pub form : IsWellFormed job cert
  pub completes : cert_of no_cert answers ≡ Ok cert
  pub row_first : IsRowFirst answers

-- The text's job, and the certificate that the answers behind it make up, but for its notes; of these
-- is kept what there is to keep, where the certificate is well formed.
pub record IsRead (kind : TextKind) (text : List ℕ) (read : ReadCert) : Type 0 where
  pub behind_job : List (Result Item CertFault)
  pub starts : items kind text ≡ Ok (given.Job read.job) ∷ behind_job
  pub cert : CertData
  pub completes : cert_of no_cert behind_job ≡ Ok cert
  pub has : HasParts read cert
  pub kept : IsGivenBy read.job cert behind_job → KeepsAll read.job cert read.notes
  pub testing : IsTesting read.job read.notes

-- answers are a refusal, or a job and others that are refused behind it
abbrev pub AreRefused : List (Result Item CertFault) → CertFault → Type 0
AreRefused (Err own ∷ more) fault = own ≡ fault
AreRefused (Ok (given.Job job) ∷ more) fault = cert_of no_cert more ≡ Err fault
AreRefused _ fault = ⊥

-- what was read of a text of a kind, or its first refusal, unless memory ran out
abbrev pub ReadAnswer : TextKind → List ℕ → Result ReadCert CheckFault → Type 0
ReadAnswer kind text (Ok read) = IsRead kind text read
ReadAnswer kind text (Err (Cert fault)) = AreRefused (items kind text) fault
ReadAnswer kind text (Err NoMemory) = Unit {0}
ReadAnswer kind text (Err _) = ⊥

-- a certificate that is well formed for a valid job, of which this was read and is kept, and these
-- answers are left
pub record IsUnderway (job : JobData) (cert read : CertData) (left : List (Result Item CertFault))
    (notes : RowNotes) : Type 0 where
  pub valid : IsJob job
  pub form : IsWellFormed job cert
  pub completes : cert_of read left ≡ Ok cert
  pub row_first : (0 < length read.rows) ⊎ IsRowFirst left
  pub kept : KeepsNotes job cert.rows read.rows read.notes notes

-- behind an item the certificate is underway, or was read
abbrev pub IsKept : JobData → CertData → CertData → Item → List (Result Item CertFault) → RowNotes
    → Type 0
IsKept job cert before given.End left notes =
    KeepsNotes job cert.rows before.rows before.notes notes
IsKept job cert before item left notes = IsUnderway job cert (with_item before item) left notes

-- Something was read behind what was read before it: more follows, or it was the end, or the reading
-- refuses. What is kept of the notes is that of the certificate, where the text is one's.
abbrev pub ItemAnswer : Result Bool CheckFault → CertData → ReadCert → List (Result Item CertFault)
    → ReadCert → List (Result Item CertFault) → Type 0
ItemAnswer (Ok true) before old left new behind =
    (read : CertData) × HasParts new read × (cert_of before left ≡ cert_of read behind)
    × (0 < length behind)
    × ((cert : CertData) → IsUnderway old.job cert before left old.notes
    → IsUnderway old.job cert read behind new.notes)
ItemAnswer (Ok false) before old left new behind =
    (cert : CertData) × HasParts new cert × (cert_of before left ≡ Ok cert)
    × (IsUnderway old.job cert before left old.notes → KeepsAll old.job cert new.notes)
ItemAnswer (Err (Cert fault)) before old left new behind = cert_of before left ≡ Err fault
ItemAnswer (Err NoMemory) before old left new behind = Unit {0}
ItemAnswer (Err _) before old left new behind = ⊥

-- what stands behind the item just read
abbrev pub behind : Reading → Reading
behind reader = record reader { answered = reader.answered + 1 }

-- The text begins with the job, and what stands behind it comes to the same as what is left behind
-- what was read of it.
pub record IsReadUpTo (kind : TextKind) (text : List ℕ) (read : ReadCert) (reader : Reading)
    : Type 0 where
  pub behind_job : List (Result Item CertFault)
  pub starts : items kind text ≡ Ok (given.Job read.job) ∷ behind_job
  pub before : CertData
  pub has : HasParts read before
  pub same : cert_of no_cert behind_job ≡ cert_of before (answers_left reader)
  pub more : AnswersLeft reader
  pub underway :
      (cert : CertData) → IsGivenBy read.job cert behind_job
      → IsUnderway read.job cert before (answers_left reader) read.notes

-- so far the text is read, which goes on from a place with these bytes
pub record IsReadBefore (kind : TextKind) (text : List ℕ) (read : ReadCert) (place : LinePlace)
    (rest : List ℕ) : Type 0 where
  pub reader : Reading
  pub reads : IsReadUpTo kind text read reader
  pub leaves : LeavesAt place rest (answers_left reader)

-- where more is left, the text is read so far; else all of it is read, or it is refused
abbrev pub PieceAnswer : Result Bool CheckFault → TextKind → List ℕ → ReadCert → LinePlace → List ℕ
    → Type 0
PieceAnswer (Ok true) kind text read place rest = IsReadBefore kind text read place rest
PieceAnswer (Ok false) kind text read place rest = ReadAnswer kind text (Ok read)
PieceAnswer (Err fault) kind text read place rest = ReadAnswer kind text (Err fault)
