-- Why the check of a table's file stops early.
use Rattle.std.specs.Prelude.{◌≡◌, ℕ, List, Result, Ok, Err}
use Rattle.plan_lines.specs.declared.item.CertFault.{CertFault}
use Rattle.plan_lines.specs.declared.item.CertFault.TheVariants as cert
use Rattle.cert_merge.specs.declared.proved.TableFault.{TableFault}
use Rattle.cert_merge.specs.declared.proved.ProveFault.{ProveFault}
use Rattle.cert_merge.specs.declared.proved.ProveFault.TheVariants as prove
use Rattle.cert_merge.specs.ProvedTable.{IsCheckedTable}
use Rattle.cert_merge.specs.Table.{TableData, TableFileData}
use Rattle.brake_commands.specs.declared.table_check.CheckedText.{CheckedText}
use Rattle.brake_commands.specs.declared.table_check.TableRefusal.{TableRefusal}
use Rattle.brake_commands.specs.declared.table_check.TableRefusal.TheVariants.{Text, Rows}
use Rattle.brake_commands.specs.declared.table_check.TableStop.{TableStop}
use Rattle.brake_commands.specs.declared.table_check.TableStop.TheVariants.{Refused, NoMemory}
use Rattle.brake_commands.specs.TableCheck.{TableChecksTo}

-- the stop that a refusal of each step is
abbrev pub of_cert_fault : CertFault → TableStop
of_cert_fault cert.NoMemory = NoMemory
of_cert_fault fault = Refused (Text fault)

abbrev pub of_table_fault : TableFault → TableStop
of_table_fault fault = Refused (Rows fault)

abbrev pub of_prove_fault : ProveFault → TableStop
of_prove_fault (prove.Text fault) = of_cert_fault fault
of_prove_fault (prove.Rows fault) = of_table_fault fault

-- the check of the text comes to this refusal, unless memory ran out
abbrev pub StopsAt : List ℕ → TableStop → Type 0
StopsAt text (Refused refusal) = TableChecksTo text (Err refusal)
StopsAt text NoMemory = Unit {0}

-- the file of a table with this text's job
abbrev pub checked_file : CheckedText → TableData → TableFileData
checked_file checked table = record { job = checked.job; table = table }

-- it is the text of this table, which is closed, with its job
abbrev pub IsCheckedText : TableData → CheckedText → Type 0
IsCheckedText table checked = IsCheckedTable checked.text.now (checked_file checked table)

-- the text of a closed table with its job, or why its check stops
abbrev pub ChecksText : List ℕ → Result CheckedText TableStop → Type 0
ChecksText text (Ok checked) =
    (checked.text.now ≡ text) × ((table : TableData) × IsCheckedText table checked)
ChecksText text (Err stop) = StopsAt text stop

-- it is a refusal, and this holds of it
abbrev pub IsTableRefusalAnd : TableStop → (TableRefusal → Type 0) → Type 0
IsTableRefusalAnd (Refused refusal) P = P refusal
IsTableRefusalAnd NoMemory P = ⊥
