-- From what the rows of a table that was read come to, to what its text comes to.
use Rattle.std.proofs.Common.{◌≡◌, inl, inr, ℕ, List, length, Err, arith, refl, sym, ◌∙◌, ap, subst}
use Rattle.cert_lines.specs.declared.row_head.RowHead.{RowHead}
use Rattle.plan_cert.specs.WellFormed.{AreRowsOf}
use Rattle.plan_cert.specs.RowFaults.{RowsAreAccounted, IsFirstFault, IsBadReason, IsNotClosed}
use Rattle.cert_check.specs.declared.fault.CheckFault.{CheckFault}
use Rattle.cert_check.specs.declared.fault.CheckFault.TheVariants.{Cert, BadReason, NotClosed, NoMemory}
use Rattle.cert_check.specs.declared.read_cert.ReadCert.{ReadCert}
use Rattle.cert_check.specs.RowNotes.{HasNotes}
use Rattle.cert_check.specs.Rows.{RowsAnswer}
use Rattle.cert_merge.specs.declared.proved.ProvedTable.{ProvedTable}
use Rattle.cert_merge.specs.declared.proved.TableFault.TheVariants as faults
use Rattle.cert_merge.specs.Table.{TableData, TableFileData, IsClosedTable}
use Rattle.cert_merge.specs.ReadRows.{AreTableParts, IsReadTable, RowsRead, IsProvedOf, ProvedAnswer}
use Rattle.cert_merge.specs.ProvedTable.{IsProvedText, ProvesText, prove_fault}
use Rattle.cert_merge.proofs.TableChecking.{table_rows, all_rows, fault_is_open}

module _ (read : ReadCert) (t : TableData) (are : AreTableParts read t) where
  -- the rows that were read are the job's
  pub rows_read : AreRowsOf read.job read.rows.items
  rows_read = subst (AreRowsOf read.job) (sym are.rows) (table_rows read.job t are.form)

  module _ (its : List RowHead) (same : its ≡ read.rows.items) where
    rows_are : its ≡ t.rows
    rows_are = same ∙ are.rows

    -- there is a set of noted actions for each
    pub count_is : length read.notes.sets.items ≡ length its
    count_is = are.notes.noted.count ∙ ap length (sym rows_are)

    pub has_notes : HasNotes read.job its t.notes read.notes
    has_notes = subst (λ (rs : List RowHead). HasNotes read.job rs t.notes read.notes) (sym rows_are) (record { form = are.form.rows; noted = are.notes.noted; first = are.notes.first })

    -- where each action is accounted for the table is closed
    pub rows_closed : RowsAreAccounted read.job its t.notes (length its) → IsClosedTable read.job t
    rows_closed met = all_rows read.job t are.form (length t.rows) (omega arith) (subst (λ (rs : List RowHead). RowsAreAccounted read.job rs t.notes (length rs)) rows_are met)

    -- else the first that isn't is the table's
    pub rows_open : (fault : CheckFault) → RowsAnswer read.job its t.notes (Err fault) → ProvedAnswer read.job t (Err fault)
    rows_open (BadReason row action) first = subst (λ (rs : List RowHead). IsFirstFault read.job rs t.notes row action (IsBadReason read.job t.notes row action)) rows_are first
    rows_open (NotClosed row action) first = subst (λ (rs : List RowHead). IsFirstFault read.job rs t.notes row action (IsNotClosed read.job rs t.notes row action)) rows_are first
    rows_open _ first = absurd first

-- a text that is refused
pub text_refused : (text : List ℕ) (fault : CheckFault) → RowsRead text (Err fault) → ProvesText text (Err (prove_fault fault))
text_refused text (Cert fault) is = inr is
text_refused text NoMemory is = inl refl
text_refused text _ is = absurd is

module _ (text : List ℕ) (read : ReadCert) (t : TableData) (of : IsReadTable text read t) where
  abbrev file : TableFileData
  file = record { job = read.job; table = t }

  -- a table that isn't closed
  pub table_open : (fault : CheckFault) → ProvedAnswer read.job t (Err fault) → ProvesText text (Err (prove_fault fault))
  table_open (BadReason row action) first = record {
    file = file;
    written = of.written;
    not_closed = fault_is_open read.job t of.parts.form (faults.BadReason row action) first;
    first = first;
  }
  table_open (NotClosed row action) first = record {
    file = file;
    written = of.written;
    not_closed = fault_is_open read.job t of.parts.form (faults.NotClosed row action) first;
    first = first;
  }
  table_open NoMemory first = inl refl
  table_open _ first = absurd first

  -- and one that is
  pub table_proved : (proved : ProvedTable) → IsProvedOf read.job t proved → IsProvedText text proved
  table_proved proved is = record {
    file = file;
    checked = record { written = of.written; closed = is.closed };
    job = is.job_is;
    rows = is.rows;
    at_start = is.at_start;
  }
