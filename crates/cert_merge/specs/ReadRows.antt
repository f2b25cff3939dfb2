-- What the one reading of a table's text keeps of it, and what a check of that comes to.
use Rattle.std.specs.Prelude.{◌≡◌, List, ℕ, length, Result, Ok, Err}
use Rattle.job_setup.specs.Setup.{JobData}
use Rattle.handling_cost.specs.Plan.{start}
use Rattle.cert_check.specs.declared.read_cert.ReadCert.{ReadCert}
use Rattle.cert_check.specs.declared.fault.CheckFault.{CheckFault}
use Rattle.cert_check.specs.declared.fault.CheckFault.TheVariants.{Cert, BadReason, NotClosed}
use Rattle.cert_check.specs.declared.fault.CheckFault.TheVariants.{NoMemory}
use Rattle.cert_check.specs.RowNotes.{IsTesting}
use Rattle.cert_check.specs.ReadCert.{KeepsNotes}
use Rattle.cert_merge.specs.declared.proved.TableFault.TheVariants as faults
use Rattle.cert_merge.specs.declared.proved.ProvedTable.{ProvedTable}
use Rattle.cert_merge.specs.Table.{TableData, IsTable, IsClosedTable}
use Rattle.cert_merge.specs.TableTexts.{IsTextOfTable}
use Rattle.cert_merge.specs.TableChecks.{IsTableFault, proved_by}
use Rattle.cert_merge.specs.ProvedTable.{IsNoTable}

-- these are the job and the rows of a well-formed table, and what is kept of all its notes
pub record AreTableParts (read : ReadCert) (table : TableData) : Type 0 where
  pub form : IsTable read.job table
  pub rows : read.rows.items ≡ table.rows
  pub notes : KeepsNotes read.job table.rows table.rows table.notes read.notes
  pub testing : IsTesting read.job read.notes

-- the parts of the table of which this is the text
pub record IsReadTable (text : List ℕ) (read : ReadCert) (table : TableData) : Type 0 where
  pub written : IsTextOfTable (record { job = read.job; table = table }) text
  pub parts : AreTableParts read table

-- the parts of the text's table, or the refusal of the text, unless memory ran out
abbrev pub RowsRead : List ℕ → Result ReadCert CheckFault → Type 0
RowsRead text (Ok read) = (table : TableData) × IsReadTable text read table
RowsRead text (Err (Cert fault)) = IsNoTable text fault
RowsRead text (Err NoMemory) = Unit {0}
RowsRead text (Err _) = ⊥

-- this is what a closed table proves of the start
pub record IsProvedOf (job : JobData) (table : TableData) (proved : ProvedTable) : Type 0 where
  pub closed : IsClosedTable job table
  pub job_is : proved.job ≡ job
  pub rows : proved.rows ≡ length table.rows
  pub at_start : proved.at_start ≡ proved_by job table.rows start

-- what a table proves, or the first action that isn't accounted for, unless memory ran out
abbrev pub ProvedAnswer : JobData → TableData → Result ProvedTable CheckFault → Type 0
ProvedAnswer job table (Ok proved) = IsProvedOf job table proved
ProvedAnswer job table (Err (BadReason row action)) =
    IsTableFault job table (faults.BadReason row action)
ProvedAnswer job table (Err (NotClosed row action)) =
    IsTableFault job table (faults.NotClosed row action)
ProvedAnswer job table (Err NoMemory) = Unit {0}
ProvedAnswer job table (Err _) = ⊥
