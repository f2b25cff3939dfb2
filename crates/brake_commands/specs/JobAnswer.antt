-- What a command answers that begins with the job of three files.
use Rattle.std.specs.Prelude.{◌≡◌, ℕ, ◌+◌, List, Result, Ok, Err}
use Rattle.job_setup.specs.Setup.{JobData}
use Rattle.job_setup.specs.JobOf.{FileFault, job_of}
use Rattle.command_runner.specs.Answers.{AnswerData}
use Rattle.command_runner.specs.Fetching.{word_at}
use Rattle.brake_commands.specs.declared.refusal.ReadStop.{ReadStop}
use Rattle.brake_commands.specs.Stops.{StopsAt}
use Rattle.brake_commands.specs.FaultNumbers.{file_refused}

-- the answer is one to the job, or tells the first refusal
abbrev pub AnswersJob : (JobData → AnswerData → Type 0) → Result JobData FileFault → AnswerData
    → Type 0
AnswersJob IsAnswer (Ok job) answer = IsAnswer job answer
AnswersJob IsAnswer (Err fault) answer = answer ≡ file_refused fault

-- the job of the contents from a place on: of the part's file, the tools file and the machine file
abbrev pub job_of_files : ℕ → List (List ℕ) → Result JobData FileFault
job_of_files place contents =
    job_of (word_at contents place) (word_at contents (place + 1)) (word_at contents (place + 2))

-- a job or a refusal is what reading gives, unless memory ran out
abbrev pub ReadsJob : Result JobData ReadStop → Result JobData FileFault → Type 0
ReadsJob (Ok job) read = read ≡ Ok job
ReadsJob (Err stop) read = StopsAt stop read
