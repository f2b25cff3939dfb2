-- What `merge` answers.
use Rattle.std.specs.Prelude.{◌≡◌, ℕ, List}
use Rattle.cert_merge.specs.Table.{TableData, TableFileData}
use Rattle.cert_merge.specs.Merged.{IsMerged}
use Rattle.command_runner.specs.Answers.{AnswerData}
use Rattle.command_runner.specs.Fetching.{word_at}
use Rattle.brake_commands.specs.TableCheck.{AnswersTable}
use Rattle.brake_commands.specs.TableAnswer.{IsTrueTable, stored_table_answer, AnswersOneJob}

-- the answer to two tables of one job: their merge is stored, and what is told of it is true
pub record IsMergedAnswer (name : List ℕ) (a b : TableFileData) (answer : AnswerData) : Type 0 where
  pub merged : TableData
  pub is_merged : IsMerged a.table b.table merged
  pub tells : IsTrueTable a.job merged
  pub is_answer : answer ≡ stored_table_answer name a.job merged

-- the answer to two tables, which are to be of one job
abbrev pub AnswersBoth : List ℕ → TableFileData → TableFileData → AnswerData → Type 0
AnswersBoth name a b answer = AnswersOneJob a.job b.job (IsMergedAnswer name a b) answer

-- the answer to the contents of the tables' files; the first is checked before the second
abbrev pub IsMergeAnswer : List ℕ → List (List ℕ) → AnswerData → Type 0
IsMergeAnswer name contents answer =
    AnswersTable 1 (λ a. AnswersTable 2 (AnswersBoth name a) (word_at contents 1))
    (word_at contents 0) answer
