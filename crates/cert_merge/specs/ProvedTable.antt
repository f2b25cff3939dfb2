-- What the check of a table's text comes to.
use Rattle.std.specs.Prelude.{◌≡◌, ◌⊎◌, List, ℕ, length, Result, Ok, Err}
use Rattle.handling_cost.specs.Plan.{start}
use Rattle.plan_lines.specs.declared.item.CertFault.{CertFault}
use Rattle.plan_lines.specs.declared.item.CertFault.TheVariants.{NoMemory}
use Rattle.cert_check.specs.declared.fault.CheckFault.{CheckFault}
use Rattle.cert_check.specs.declared.fault.CheckFault.TheVariants as check
use Rattle.cert_merge.specs.declared.proved.TableFault.{TableFault}
use Rattle.cert_merge.specs.declared.proved.TableFault.TheVariants.{BadReason, NotClosed}
use Rattle.cert_merge.specs.declared.proved.ProveFault.{ProveFault}
use Rattle.cert_merge.specs.declared.proved.ProveFault.TheVariants.{Text, Rows}
use Rattle.cert_merge.specs.declared.proved.ProvedTable.{ProvedTable}
use Rattle.cert_merge.specs.Table.{TableFileData, IsClosedTable}
use Rattle.cert_merge.specs.TableTexts.{table_file_of, IsTextOfTable}
use Rattle.cert_merge.specs.TableChecks.{IsTableFault, proved_by}

-- the text is that of a table of a valid job, and the table is closed
pub record IsCheckedTable (text : List ℕ) (file : TableFileData) : Type 0 where
  pub written : IsTextOfTable file text
  pub closed : IsClosedTable file.job file.table

-- the text is no table's, and this is where that first shows
pub record IsNoTable (text : List ℕ) (fault : CertFault) : Type 0 where
  pub none : (file : TableFileData) → IsTextOfTable file text → ⊥
  pub first : table_file_of text ≡ Err fault

-- the text is that of a table that isn't closed, and this is the first action that isn't accounted
-- for
pub record IsOpenTable (text : List ℕ) (fault : TableFault) : Type 0 where
  pub file : TableFileData
  pub written : IsTextOfTable file text
  pub not_closed : IsClosedTable file.job file.table → ⊥
  pub first : IsTableFault file.job file.table fault

-- the text is that of a closed table, and this is its job, the number of its rows, and what they
-- prove of the start
pub record IsProvedText (text : List ℕ) (proved : ProvedTable) : Type 0 where
  pub file : TableFileData
  pub checked : IsCheckedTable text file
  pub job : proved.job ≡ file.job
  pub rows : proved.rows ≡ length file.table.rows
  pub at_start : proved.at_start ≡ proved_by file.job file.table.rows start

-- what the table of a text proves, or the first refusal, unless memory ran out
abbrev pub ProvesText : List ℕ → Result ProvedTable ProveFault → Type 0
ProvesText text (Ok proved) = IsProvedText text proved
ProvesText text (Err (Text fault)) = (fault ≡ NoMemory) ⊎ IsNoTable text fault
ProvesText text (Err (Rows fault)) = IsOpenTable text fault

-- the refusal of a table that a refusal of its parts is
abbrev pub prove_fault : CheckFault → ProveFault
prove_fault (check.Cert fault) = Text fault
prove_fault (check.BadReason row action) = Rows (BadReason row action)
prove_fault (check.NotClosed row action) = Rows (NotClosed row action)
prove_fault _ = Text NoMemory
