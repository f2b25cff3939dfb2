-- Tables as lists, and what they keep to.
use Rattle.std.specs.Prelude.{List}
use Rattle.job_setup.specs.Setup.{JobData}
use Rattle.job_setup.specs.ValidJob.{IsJob}
use Rattle.handling_cost.specs.Good.{MeetsCondition}
use Rattle.cert_lines.specs.declared.row_head.RowHead.{RowHead}
use Rattle.plan_lines.specs.declared.note.Note.{Note}
use Rattle.plan_cert.specs.WellFormed.{AreRows}
use Rattle.plan_cert.specs.GoodCert.{HaveRow, HaveNote}

-- settled keys with what was proved of them, and the reasons that were found there
pub record TableData : Type 0 where
  pub rows : List RowHead
  pub notes : List Note

-- a job, and a table of it
pub record TableFileData : Type 0 where
  pub job : JobData
  pub table : TableData

-- the table is well formed for a valid job: rows of the job in strict order of their keys, and
-- notes in strict order of their rows and actions
pub record IsTable (job : JobData) (t : TableData) : Type 0 where
  pub valid : IsJob job
  pub rows : AreRows job t.rows t.notes

-- the table is closed: each of its rows meets the condition on rows
abbrev pub IsClosedTable : JobData → TableData → Type 0
IsClosedTable job t = MeetsCondition job (HaveRow t.rows) (HaveNote job t.rows t.notes)
