-- The items of a certificate of a job, in order.
use Rattle.std.specs.Prelude.{◌≡◌, ℕ, ◌==◌, Ok, List, [], ◌∷◌, ◌++◌, map, filter}
use Rattle.std.specs.List.{flat_map, enumerate_from}
use Rattle.job_setup.specs.Setup.{JobData}
use Rattle.job_setup.specs.ValidJob.{IsJob}
use Rattle.cert_lines.specs.declared.row_head.RowHead.{RowHead}
use Rattle.plan_lines.specs.declared.note.Note.{Note}
use Rattle.plan_lines.specs.declared.item.Item.{Item}
use Rattle.plan_lines.specs.declared.item.Item.TheVariants as given
use Rattle.cert_lines.specs.declared.format.TextKind.TheVariants.{Certificate}
use Rattle.plan_cert.specs.Cert.{CertData}
use Rattle.plan_cert.specs.WellFormed.{IsWellFormed}
use Rattle.plan_lines.specs.Items.{items}
use Rattle.plan_cert.specs.CertReading.{CertFileData}

-- a row, and its notes
abbrev pub row_items : List Note → ℕ × RowHead → List Item
row_items notes row =
    given.Row row.1 ∷ map (λ note. given.Note note.action note.reason)
    (filter (λ note. note.row == row.0) notes)

-- the rows in order, each with its notes
unfoldable pub rows_items : List RowHead → List Note → List Item
rows_items rows notes = flat_map (row_items notes) (enumerate_from 0 rows)

-- the job, the claim, the steps, the rows with their notes, and the end
unfoldable pub cert_items : JobData → CertData → List Item
cert_items job cert =
    given.Job job ∷ given.Claim cert.claim ∷ map given.Step cert.steps
    ++ rows_items cert.rows cert.notes ++ given.End ∷ []

-- the job, the rows with their notes, and the end: the items of a table file
abbrev pub table_items : JobData → List RowHead → List Note → List Item
table_items job rows notes = given.Job job ∷ rows_items rows notes ++ given.End ∷ []

-- the job is valid, the certificate is well formed for it, and the text's items are the
-- certificate's
pub record IsReadFrom (file : CertFileData) (text : List ℕ) : Type 0 where
  pub job : IsJob file.job
  pub form : IsWellFormed file.job file.cert
  pub items : items Certificate text ≡ map Ok (cert_items file.job file.cert)
