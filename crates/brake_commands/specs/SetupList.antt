-- What the four files of `setups` give, and the first refusal.
use Rattle.std.specs.Prelude.{◌≡◌, ℕ, List, take, codes, All, Some, Result, Ok, Err}
use Rattle.std.specs.List.{slice_get}
use Rattle.toml_fields.specs.Results.{◌>>=◌}
use Rattle.part_file.specs.Part.{PartData, IsPart}
use Rattle.part_file.specs.PartFile.{part_of}
use Rattle.tool_library.specs.Tools.{ToolsData, IsTools}
use Rattle.tool_library.specs.ToolsFile.{tools_of}
use Rattle.machine_file.specs.Machine.{MachineData, IsMachine}
use Rattle.machine_file.specs.MachineFile.{machine_of}
use Rattle.job_setup.specs.declared.fault.JobFault.{JobFault}
use Rattle.job_setup.specs.JobOf.{FileFault, part_refused, tools_refused, machine_refused, refusing}
use Rattle.setup_choice.specs.declared.fault.SetupFault.{SetupFault}
use Rattle.setup_choice.specs.Setups.{OneSetupData}
use Rattle.setup_choice.specs.SetupsFile.{setups_of}
use Rattle.setup_choice.specs.FaultNumbers.{setup_numbers}
use Rattle.setup_choice.specs.Fitting.{setup_fits}
use Rattle.command_runner.specs.declared.status.Status.TheVariants.{Refused}
use Rattle.command_runner.specs.Answers.{AnswerData, refusal}
use Rattle.command_runner.specs.Fetching.{word_at}
use Rattle.brake_commands.specs.FaultNumbers.{file_refused}

-- a part, tools and a machine, whose own stages aren't used
pub record JobFilesData : Type 0 where
  pub part : PartData
  pub tools : ToolsData
  pub machine : MachineData

-- each meets the rules of its reader
pub record IsJobFiles (files : JobFilesData) : Type 0 where
  pub part : IsPart files.part
  pub tools : IsTools files.tools
  pub machine : IsMachine files.machine

-- the same, with a list of setups to be tried
pub record SetupList : Type 0 where
  pub files : JobFilesData
  pub setups : List OneSetupData

-- why the files of `setups` are refused: one of the three for its own sake, or the setups file or
-- one of its setups
pub data SetupsFault : Type 0 where
  job_files_refused : FileFault → SetupsFault
  setups_refused : SetupFault → SetupsFault

-- the part, the tools and the machine of three files, or the first refusal
unfoldable pub job_files_of : List ℕ → List ℕ → List ℕ → Result JobFilesData FileFault
job_files_of part_bytes tools_bytes machine_bytes = do
  part ← refusing part_refused (part_of part_bytes)
  tools ← refusing tools_refused (tools_of tools_bytes)
  machine ← refusing machine_refused (machine_of machine_bytes)
  Ok (record { part = part; tools = tools; machine = machine })

-- these and the setups of a fourth, or the first refusal
unfoldable pub list_of : List ℕ → List ℕ → List ℕ → List ℕ → Result SetupList SetupsFault
list_of part_bytes tools_bytes machine_bytes setups_bytes = do
  files ← refusing job_files_refused (job_files_of part_bytes tools_bytes machine_bytes)
  setups ← refusing setups_refused (setups_of setups_bytes)
  Ok (record { files = files; setups = setups })

-- the list of the contents of the part's file, the tools file, the machine file and the setups file
abbrev pub list_of_files : List (List ℕ) → Result SetupList SetupsFault
list_of_files contents =
    list_of (word_at contents 0) (word_at contents 1) (word_at contents 2) (word_at contents 3)

-- whether a setup stands on the machine, but for the stock, or its first refusal
abbrev pub fits_with : JobFilesData → OneSetupData → Result (Unit {0}) JobFault
fits_with files one = setup_fits files.part files.tools files.machine one

-- the setup of this place is refused for this, and none before it
pub record IsFirstRefused (list : SetupList) (place : ℕ) (fault : JobFault) : Type 0 where
  pub one : OneSetupData
  pub listed : slice_get list.setups place ≡ Some one
  pub refused : fits_with list.files one ≡ Err fault
  pub before : All (λ earlier. fits_with list.files earlier ≡ Ok tt) (take place list.setups)

-- the answer that puts the line of a refusal
abbrev pub list_refused : SetupsFault → AnswerData
list_refused (job_files_refused fault) = file_refused fault
list_refused (setups_refused fault) =
    refusal Refused (codes "refused setups") (setup_numbers fault)

-- the answer is one to the list, or tells the first refusal of the files
abbrev pub AnswersList :
    (SetupList → AnswerData → Type 0) → Result SetupList SetupsFault → AnswerData → Type 0
AnswersList IsAnswer (Ok list) answer = IsAnswer list answer
AnswersList IsAnswer (Err fault) answer = answer ≡ list_refused fault
