-- What `blank` answers.
use Rattle.std.specs.Prelude.{ℕ, List, Result, Ok, Err}
use Rattle.toml_fields.specs.Results.{◌>>=◌}
use Rattle.job_setup.specs.JobOf.{FileFault, blank_of}
use Rattle.setup_sheet.specs.Sheets.{blank_text}
use Rattle.command_runner.specs.declared.status.Status.TheVariants.{Done}
use Rattle.command_runner.specs.Answers.{AnswerData, one_text}
use Rattle.command_runner.specs.Fetching.{word_at}
use Rattle.brake_commands.specs.FaultNumbers.{file_refused}

-- the sheet of the part of two files with its blank, or the first refusal
unfoldable pub blank_sheet_of : List ℕ → List ℕ → Result (List ℕ) FileFault
blank_sheet_of part_bytes tools_bytes = do
  flat ← blank_of part_bytes tools_bytes
  Ok (blank_text flat.part flat.blank)

-- the answer that puts the sheet, or the line of the first refusal
abbrev pub sheet_answer : Result (List ℕ) FileFault → AnswerData
sheet_answer (Ok sheet) = one_text Done sheet
sheet_answer (Err fault) = file_refused fault

-- the answer to the contents of the part's file and the tools file
abbrev pub blank_answer : List (List ℕ) → AnswerData
blank_answer contents = sheet_answer (blank_sheet_of (word_at contents 0) (word_at contents 1))
