-- A whole certificate from the items of its text.
use Rattle.std.specs.Prelude.{◌≡◌, ◌⊎◌, ℕ, ◌-◌, ◌^◌, ◌<◌, min, Bool, true, false, nat_lt, List, []}
use Rattle.std.specs.Prelude.{◌∷◌, ◌++◌, length, take, drop, bytes_eq, codes, Result, Ok, Err}
use Rattle.std.specs.Prelude.{map, if◌then◌else◌}
use Rattle.job_setup.specs.Setup.{JobData}
use Rattle.brake_base.specs.declared.stroke.Step.{Step}
use Rattle.brake_base.specs.declared.stroke.Worth.TheVariants.{Blocked}
use Rattle.brake_base.specs.declared.reason.Reason.{Reason}
use Rattle.plan_cert.specs.declared.cert_reading.CertFile.{CertFile}
use Rattle.cert_lines.specs.declared.format.TextKind.{TextKind}
use Rattle.cert_lines.specs.declared.format.TextKind.TheVariants.{Certificate}
use Rattle.plan_lines.specs.declared.item.Item.{Item}
use Rattle.plan_lines.specs.declared.item.Item.TheVariants as given
use Rattle.plan_lines.specs.declared.item.CertFault.{CertFault}
use Rattle.plan_lines.specs.declared.item.CertFault.TheVariants as faults
use Rattle.plan_lines.specs.Reading.{Reading}
use Rattle.plan_cert.specs.Cert.{CertData, cert_data}
use Rattle.plan_lines.specs.Items.{items}
use Rattle.plan_lines.specs.NoteLines.{KnownReasons}
use Rattle.plan_lines.specs.NoteLines.{note_by}

-- a job, a certificate of it, and the version of its text
pub record CertFileData : Type 0 where
  pub job : JobData
  pub cert : CertData
  pub version : ℕ

abbrev pub cert_file_data : CertFile → CertFileData
cert_file_data f = record { job = f.job; cert = cert_data f.cert; version = f.version }

-- the version that the first line names
abbrev pub version_in : List ℕ → ℕ
version_in text = if bytes_eq (take 13 text) (codes "brake-cert 1\n") then 1 else 2

abbrev pub no_cert : CertData
no_cert = record { claim = Blocked; steps = []; rows = []; notes = [] }

-- a certificate has at most 12 steps
abbrev pub with_step : CertData → Step → CertData
with_step c step = if nat_lt (length c.steps) 12
    then record c { steps = c.steps ++ step ∷ [] }
    else c

-- the number of the last row; it stands still at the greatest u32, which no certificate reaches
abbrev pub last_row : CertData → ℕ
last_row c = min (length c.rows - 1) (2 ^ 32 - 1)

-- a note is of the last row
abbrev pub with_note : CertData → ℕ → Reason → CertData
with_note c action reason = record c {
  notes = c.notes ++ record {
    row = last_row c;
    action = action;
    reason = reason;
  } ∷ [];
}

-- so many known notes of the last row
abbrev pub with_known : CertData → KnownReasons → List ℕ → CertData
with_known c known places = record c {
  notes = c.notes ++ map (note_by (last_row c) known) places;
}

-- what an item adds
abbrev pub with_item : CertData → Item → CertData
with_item c (given.Claim claim) = record c { claim = claim }
with_item c (given.Step step) = with_step c step
with_item c (given.Row row) = record c { rows = c.rows ++ row ∷ [] }
with_item c (given.Note action reason) = with_note c action reason
with_item c _ = c

abbrev pub is_last : Item → Bool
is_last given.End = true
is_last _ = false

-- the certificate that items give behind what was read before them, or the refusal
unfoldable pub cert_of : CertData → List (Result Item CertFault) → Result CertData CertFault
cert_of c [] = Err faults.Unended
cert_of c (Err fault ∷ more) = Err fault
cert_of c (Ok item ∷ more) = if is_last item then Ok c else cert_of (with_item c item) more

-- the job of the first item, and the certificate of the others
unfoldable pub with_job : List ℕ → List (Result Item CertFault) → Result CertFileData CertFault
with_job text (Ok (given.Job job) ∷ more) = elim (cert_of no_cert more) [
  | Ok cert ↦ Ok (record {
    job = job;
    cert = cert;
    version = version_in text;
  })
  | Err fault ↦ Err fault
]
with_job text (Err fault ∷ more) = Err fault
with_job text _ = Err faults.Unended

-- what a text of a kind gives: the job, the certificate and the version, or the first refusal
unfoldable pub file_of : TextKind → List ℕ → Result CertFileData CertFault
file_of kind text = with_job text (items kind text)

-- what the text of a certificate gives
abbrev pub cert_file_of : List ℕ → Result CertFileData CertFault
cert_file_of text = file_of Certificate text

-- the answers that a reader has still to give
abbrev pub answers_left : Reading → List (Result Item CertFault)
answers_left r = drop r.answered (items r.kind r.text)

abbrev pub AnswersLeft : Reading → Type 0
AnswersLeft r = r.answered < length (items r.kind r.text)

-- an item was added: the last one, or one behind which the others are still to be added; or the
-- certificate is refused
abbrev pub Collects : Result Bool CertFault → CertData → Reading → CertData → Reading → Type 0
Collects (Ok true) cert reader added behind = cert_of cert (answers_left reader) ≡ Ok added
Collects (Ok false) cert reader added behind =
    (cert_of cert (answers_left reader) ≡ cert_of added (answers_left behind)) × AnswersLeft behind
Collects (Err fault) cert reader added behind =
    (fault ≡ faults.NoMemory) ⊎ (cert_of cert (answers_left reader) ≡ Err fault)

-- the first item is a job, behind which others are still to be read; or the certificate is refused
abbrev pub BeginsWith : Reading → Result JobData CertFault → Reading → Type 0
BeginsWith reader (Ok job) behind =
    (answers_left reader ≡ Ok (given.Job job) ∷ answers_left behind) × AnswersLeft behind
    × (0 < behind.answered)
BeginsWith reader (Err fault) behind = file_of reader.kind reader.text ≡ Err fault
