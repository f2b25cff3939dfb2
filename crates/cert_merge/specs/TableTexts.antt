-- A whole table file from the items of its text.
use Rattle.std.specs.Prelude.{◌≡◌, List, [], ℕ, Result, Ok, Err}
use Rattle.plan_lines.specs.declared.item.CertFault.{CertFault}
use Rattle.cert_lines.specs.declared.format.TextKind.TheVariants as kinds
use Rattle.plan_cert.specs.CertReading.{CertFileData, file_of}
use Rattle.plan_cert.specs.ExactTexts.{IsTableText}
use Rattle.cert_merge.specs.Table.{TableData, TableFileData}

abbrev pub empty_table : TableData
empty_table = record { rows = []; notes = [] }

-- the rows and notes of what is read, which are all that a table's text gives but for its job
abbrev pub table_file : CertFileData → TableFileData
table_file file = record {
  job = file.job;
  table = record {
    rows = file.cert.rows;
    notes = file.cert.notes;
  };
}

abbrev pub as_table : Result CertFileData CertFault → Result TableFileData CertFault
as_table (Ok file) = Ok (table_file file)
as_table (Err fault) = Err fault

-- what a text gives: the job and the table, or the first refusal
abbrev pub table_file_of : List ℕ → Result TableFileData CertFault
table_file_of text = as_table (file_of kinds.Table text)

-- the text is the one that the table of the job has
abbrev pub IsTextOfTable : TableFileData → List ℕ → Type 0
IsTextOfTable file text = IsTableText file.job file.table.rows file.table.notes text

-- a text that is a table's gives this table
abbrev pub GivesBack : List ℕ → Type 0
GivesBack text = (file : TableFileData) → IsTextOfTable file text → table_file_of text ≡ Ok file
