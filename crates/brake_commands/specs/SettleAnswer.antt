-- What `settle` answers.
use Rattle.std.specs.Prelude.{◌≡◌, ◌⊎◌, ℕ, ◌+◌, ◌^◌, ◌<◌, ◌≤◌, List, [], codes}
use Rattle.job_setup.specs.Setup.{JobData, bend_count}
use Rattle.cert_merge.specs.Table.{TableData, TableFileData}
use Rattle.cert_merge.specs.TableTexts.{empty_table}
use Rattle.cert_merge.specs.Settled.{IsSettled, ProvesLeast}
use Rattle.command_runner.specs.declared.status.Status.TheVariants as status
use Rattle.command_runner.specs.Answers.{AnswerData, refusal}
use Rattle.command_runner.specs.Fetching.{word_at}
use Rattle.brake_commands.specs.JobAnswer.{AnswersJob, job_of_files}
use Rattle.brake_commands.specs.TableCheck.{AnswersTable}
use Rattle.brake_commands.specs.TableAnswer.{IsTrueTable, stored_table_answer, AnswersOneJob}

-- the sets of bends from `low` to `high` are a range, and each leaves a bend of the job unfolded
pub record IsRange (low high : ℕ) (job : JobData) : Type 0 where
  pub order : low ≤ high
  pub below_full : high + 1 < 2 ^ bend_count job

-- the answer to a job, once the range is one of its sets, else that it isn't
abbrev pub AnswersRange : ℕ → ℕ → (JobData → AnswerData → Type 0) → JobData → AnswerData → Type 0
AnswersRange low high IsAnswer job answer =
    (IsRange low high job × IsAnswer job answer)
    ⊎ ((IsRange low high job → ⊥) × (answer ≡ refusal status.Refused (codes "refused range") []))

-- the answer to a job and a base: the table that is settled over it is stored, and what is told of
-- it is true; of all sets over no base, it proves the least cost of a plan
pub record IsSettledAnswer (name : List ℕ) (low high : ℕ) (base : TableData) (job : JobData)
    (answer : AnswerData) : Type 0 where
  pub settled : TableData
  pub is_settled : IsSettled job base low high settled
  pub tells : IsTrueTable job settled
  pub least : ProvesLeast job base low high settled
  pub is_answer : answer ≡ stored_table_answer name job settled

-- the answer to a job and a table, which is to be of this job, as the base
abbrev pub AnswersBase : List ℕ → ℕ → ℕ → JobData → TableFileData → AnswerData → Type 0
AnswersBase name low high job base answer =
    AnswersOneJob base.job job (IsSettledAnswer name low high base.table job) answer

-- the answer to the contents of the part's file, the tools file and the machine file
abbrev pub IsSettleAnswer : List ℕ → ℕ → ℕ → List (List ℕ) → AnswerData → Type 0
IsSettleAnswer name low high contents answer =
    AnswersJob (AnswersRange low high (IsSettledAnswer name low high empty_table))
    (job_of_files 0 contents) answer

-- the answer to these and to the content of the base's file, which is that of file word 5
abbrev pub IsSettleOverAnswer : List ℕ → ℕ → ℕ → List (List ℕ) → AnswerData → Type 0
IsSettleOverAnswer name low high contents answer =
    AnswersJob (AnswersRange low high
    (λ job. AnswersTable 5 (AnswersBase name low high job) (word_at contents 3)))
    (job_of_files 0 contents) answer
