-- Which texts a reader reads to their end: those of a certificate or of a table of a valid job.
use Rattle.std.specs.Prelude.{◌≡◌, ℕ, List, [], ◌∷◌, ◌++◌, map, Ok}
use Rattle.job_setup.specs.Setup.{JobData}
use Rattle.cert_lines.specs.declared.row_head.RowHead.{RowHead}
use Rattle.plan_lines.specs.declared.note.Note.{Note}
use Rattle.cert_lines.specs.declared.format.TextKind.{TextKind}
use Rattle.cert_lines.specs.declared.format.TextKind.TheVariants as kinds
use Rattle.plan_lines.specs.declared.item.Item.{Item}
use Rattle.plan_lines.specs.declared.item.Item.TheVariants.{End}
use Rattle.plan_lines.specs.Items.{items}
use Rattle.plan_cert.specs.CertReading.{CertFileData}
use Rattle.plan_cert.specs.CertItems.{cert_items, table_items}
use Rattle.plan_cert.specs.ExactTexts.{IsTextOf, IsTableText}

-- the answers are items up to and with the end, and no refusal
abbrev pub IsReadToEnd : TextKind → List ℕ → Type 0
IsReadToEnd kind text = (body : List Item) × (items kind text ≡ map Ok (body ++ End ∷ []))

-- exactly a certificate's text is read to its end, and its items are the certificate's
pub record ReadsCertTexts (text : List ℕ) : Type 0 where
  pub each : (file : CertFileData) → IsTextOf file text
      → items kinds.Certificate text ≡ map Ok (cert_items file.job file.cert)
  pub only : IsReadToEnd kinds.Certificate text → (file : CertFileData) × IsTextOf file text

-- exactly a table's text is read to its end, and its items are the table's
pub record ReadsTableTexts (text : List ℕ) : Type 0 where
  pub each : (job : JobData) (heads : List RowHead) (notes : List Note)
      → IsTableText job heads notes text
      → items kinds.Table text ≡ map Ok (table_items job heads notes)
  pub only : IsReadToEnd kinds.Table text
      → (job : JobData) × (heads : List RowHead) × (notes : List Note)
      × IsTableText job heads notes text
