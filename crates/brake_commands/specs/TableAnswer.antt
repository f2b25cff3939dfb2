-- What is told of a table. Worths are in tenths of a second.
use Rattle.std.specs.Prelude.{◌≡◌, ◌≢◌, ◌⊎◌, ℕ, List, [], ◌∷◌, length, codes}
use Rattle.brake_base.specs.declared.stroke.Worth.{Worth}
use Rattle.brake_base.specs.declared.stroke.Worth.TheVariants.{Cost, Blocked}
use Rattle.job_setup.specs.Setup.{JobData}
use Rattle.handling_cost.specs.Plan.{start}
use Rattle.cert_lines.specs.Lines.{number, text_line}
use Rattle.plan_cert.specs.CertText.{table_text}
use Rattle.cert_merge.specs.Table.{TableData, IsTable, IsClosedTable}
use Rattle.cert_merge.specs.TableChecks.{CostsAtLeast, proved_by}
use Rattle.command_runner.specs.declared.status.Status.TheVariants as status
use Rattle.command_runner.specs.Answers.{StoredData, AnswerData, one_stored, refusal}
use Rattle.brake_commands.specs.PlanAnswer.{claim_status, no_plan_line}

-- what the rows of a table prove of the start key
abbrev pub proved_at_start : JobData → TableData → Worth
proved_at_start job table = proved_by job table.rows start

-- `rows R`
unfoldable pub rows_line : ℕ → List ℕ
rows_line count = text_line (codes "rows") (number count ∷ [])

-- `at least C`
unfoldable pub at_least_line : ℕ → List ℕ
at_least_line cost = text_line (codes "at least") (number cost ∷ [])

-- a worth that is proved of the start: every plan costs at least this, or there is none
abbrev pub proved_line : Worth → List ℕ
proved_line (Cost cost) = at_least_line cost
proved_line Blocked = no_plan_line

-- the answer that tells so many rows and a worth that they prove of the start, and stores these
-- texts
abbrev pub told_answer : List StoredData → ℕ → Worth → AnswerData
told_answer stored rows worth =
    record {
      stored = stored;
      status = claim_status worth;
      texts = rows_line rows ∷ proved_line worth ∷ [];
    }

-- the answer that tells a table's number of rows and what they prove of the start, and stores these
-- texts
abbrev pub table_answer : List StoredData → JobData → TableData → AnswerData
table_answer stored job table =
    told_answer stored (length table.rows) (proved_at_start job table)

-- a table's text is stored under a name
abbrev pub stored_table : List ℕ → JobData → TableData → List StoredData
stored_table name job table = one_stored name (table_text job table.rows table.notes)

-- the answer that also stores the table's text under a name
abbrev pub stored_table_answer : List ℕ → JobData → TableData → AnswerData
stored_table_answer name job table = table_answer (stored_table name job table) job table

-- what is told of a table is true: it is a table of the job, and closed; every plan costs at least
-- what it proves of the start, and there is none where that is Blocked
pub record IsTrueTable (job : JobData) (table : TableData) : Type 0 where
  pub form : IsTable job table
  pub closed : IsClosedTable job table
  pub truth : CostsAtLeast job (proved_at_start job table)

-- the answer to a table of a job where another is at hand: one to both, where they are of one job,
-- else that they aren't
abbrev pub AnswersOneJob : JobData → JobData → (AnswerData → Type 0) → AnswerData → Type 0
AnswersOneJob job other IsAnswer answer =
    ((job ≡ other) × IsAnswer answer)
    ⊎ ((job ≢ other) × (answer ≡ refusal status.CertRefused (codes "table refused job") []))
