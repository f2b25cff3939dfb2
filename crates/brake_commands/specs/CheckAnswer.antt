-- What `check` answers with the files of a job.
use Rattle.std.specs.Prelude.{◌≡◌, ◌≢◌, ◌⊎◌, List, ℕ, codes, Result, Ok, Err}
use Rattle.job_setup.specs.Setup.{JobData}
use Rattle.cert_check.specs.declared.fault.CheckFault.{CheckFault}
use Rattle.cert_check.specs.Checking.{CheckedData}
use Rattle.command_runner.specs.declared.status.Status.TheVariants as status
use Rattle.command_runner.specs.Answers.{AnswerData, one_text}
use Rattle.command_runner.specs.Fetching.{word_at}
use Rattle.check_command.specs.CheckAnswer.{verdict_answer, cert_refused, ChecksTo}
use Rattle.brake_commands.specs.JobAnswer.{AnswersJob, job_of_files}

-- the answer that the certificate is of another job
unfoldable pub other_job_line : List ℕ
other_job_line = codes "certificate refused job\n"

abbrev pub other_job : AnswerData
other_job = one_text status.CertRefused other_job_line

-- the answer to a certificate that is to be of this job: its claim where its job is this one, else
-- that it is another's
abbrev pub IsAnswerOf : JobData → Result CheckedData CheckFault → AnswerData → Type 0
IsAnswerOf job (Ok checked) answer =
    ((checked.job ≡ job) × (answer ≡ verdict_answer checked.verdict))
    ⊎ ((checked.job ≢ job) × (answer ≡ other_job))
IsAnswerOf job (Err fault) answer = answer ≡ cert_refused fault

abbrev pub IsAnswerFor : List ℕ → JobData → AnswerData → Type 0
IsAnswerFor text job answer =
    (checked : Result CheckedData CheckFault) × ChecksTo text checked
    × IsAnswerOf job checked answer

-- the answer to the contents of a certificate's file and of the three files of a job; a refusal of
-- the files comes first
abbrev pub IsCheckFilesAnswer : List (List ℕ) → AnswerData → Type 0
IsCheckFilesAnswer contents answer =
    AnswersJob (IsAnswerFor (word_at contents 0)) (job_of_files 1 contents) answer
