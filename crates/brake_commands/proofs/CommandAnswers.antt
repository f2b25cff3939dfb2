-- From what a call answers to what a command answers.
use Rattle.std.proofs.Common.{◌≡◌, ℕ, length, Option, Some, None, Result, Ok, refl}
use Rattle.job_setup.specs.Setup.{JobData}
use Rattle.job_setup.specs.JobOf.{FileFault}
use Rattle.command_runner.specs.Answers.{AnswerData}
use Rattle.command_runner.specs.Fetching.{file_words}
use Rattle.brake_commands.specs.declared.command.Command.TheVariants.{Plan}
use Rattle.brake_commands.specs.Forms.{kinds_of, form_of}
use Rattle.brake_commands.specs.declared.refusal.ReadStop.{ReadStop}
use Rattle.brake_commands.specs.declared.refusal.ReadStop.TheVariants.{Refused, NoMemory}
use Rattle.brake_commands.specs.Stops.{StopsAt, IsRefusalAnd}
use Rattle.brake_commands.specs.FaultNumbers.{file_refused}
use Rattle.brake_commands.specs.JobAnswer.{AnswersJob}

-- the answer to files that give no job
pub stop_answers : (P : JobData → AnswerData → Type 0) (stop : ReadStop) (read : Result JobData FileFault) (answer : AnswerData) → StopsAt stop read → IsRefusalAnd stop (λ fault. answer ≡ file_refused fault) → AnswersJob P read answer
stop_answers P (Refused r) read answer stops told = rw stops told
stop_answers P NoMemory read answer stops told = absurd told

-- the answer to files that give a job
pub job_answers : (P : JobData → AnswerData → Type 0) (job : JobData) (read : Result JobData FileFault) (answer : AnswerData) → read ≡ Ok job → P job answer → AnswersJob P read answer
job_answers P job read answer reads is = rw reads is

-- `plan` has three files, with a budget and without
pub plan_files : (part tools machine cert : ℕ) (budget : Option ℕ) → length (file_words (kinds_of (form_of (Plan part tools machine cert budget)))) ≡ 3
plan_files part tools machine cert None = refl
plan_files part tools machine cert (Some budget) = refl
