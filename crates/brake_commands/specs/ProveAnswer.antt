-- What `prove` answers.
use Rattle.std.specs.Prelude.{◌≡◌, ℕ, List, []}
use Rattle.cert_merge.specs.Table.{TableFileData}
use Rattle.command_runner.specs.Answers.{AnswerData}
use Rattle.command_runner.specs.Fetching.{word_at}
use Rattle.brake_commands.specs.TableCheck.{AnswersTable}
use Rattle.brake_commands.specs.TableAnswer.{IsTrueTable, table_answer}

-- the answer to a table: what it proves, which is true
abbrev pub IsProved : TableFileData → AnswerData → Type 0
IsProved file answer =
    IsTrueTable file.job file.table × (answer ≡ table_answer [] file.job file.table)

-- the answer to the content of the table's file
abbrev pub IsProveAnswer : List (List ℕ) → AnswerData → Type 0
IsProveAnswer contents answer = AnswersTable 1 IsProved (word_at contents 0) answer
