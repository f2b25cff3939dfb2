-- The text of what is settled, and what is told of it.
use Rattle.std.specs.Prelude.{◌≡◌, ℕ, ◌≤◌, List, length}
use Rattle.job_setup.specs.Setup.{JobData}
use Rattle.handling_cost.specs.Plan.{start}
use Rattle.plan_cert.specs.CertText.{table_text}
use Rattle.cert_lines.specs.Lines.{IsWorth}
use Rattle.cert_merge.specs.declared.settled_text.SettledText.{SettledText}
use Rattle.cert_merge.specs.Table.{TableData, IsTable, IsClosedTable}
use Rattle.cert_merge.specs.TableChecks.{proved_by}
use Rattle.cert_merge.specs.TableTexts.{IsTextOfTable}
use Rattle.cert_merge.specs.Settled.{IsSettled, IsOneSettled, ProvesLeast}

-- the text of a table, with its number of rows and what they prove of the start, in tenths of a
-- second
pub record TellsTable (job : JobData) (t : TableData) (told : SettledText) : Type 0 where
  pub text_is : told.text ≡ table_text job t.rows t.notes
  pub rows_are : told.rows ≡ length t.rows
  pub start_is : told.at_start ≡ proved_by job t.rows start

-- that of the table that is settled over a base, of which all holds that holds of a settled one
pub record IsSettledText (job : JobData) (base : TableData) (low high : ℕ) (told : SettledText)
    : Type 0 where
  pub table : TableData
  pub tells : TellsTable job table told
  pub few : told.rows ≤ 589824
  pub small : IsWorth told.at_start
  pub settled : IsSettled job base low high table
  pub one : IsOneSettled job base low high table
  pub form : IsTable job table
  pub closed : IsClosedTable job table
  pub least : ProvesLeast job base low high table

-- the table is closed, and the text is the one that it has
pub record IsClosedText (job : JobData) (base : TableData) (text : List ℕ) : Type 0 where
  pub text_is : IsTextOfTable (record { job = job; table = base }) text
  pub closed : IsClosedTable job base
