-- Why a run of `setups` stops early.
use Rattle.std.specs.Prelude.{◌≡◌, ℕ, List, map, Vec, Result, Ok, Err}
use Rattle.std.specs.List.{AllZip}
use Rattle.std.specs.declared.alloc.Global.{Global}
use Rattle.part_file.specs.Part.{part_data}
use Rattle.tool_library.specs.Tools.{tools_data}
use Rattle.machine_file.specs.Machine.{machine_data}
use Rattle.job_setup.specs.JobOf.{FileFault}
use Rattle.setup_choice.specs.declared.fault.SetupFault.{SetupFault}
use Rattle.setup_choice.specs.declared.fault.SetupFault.TheVariants as setup
use Rattle.setup_choice.specs.declared.outcome.Fit.{Fit}
use Rattle.setup_choice.specs.Setups.{OneSetupData, setups_data}
use Rattle.setup_choice.specs.Fitting.{IsFit}
use Rattle.brake_commands.specs.declared.refusal.ReadStop.{ReadStop}
use Rattle.brake_commands.specs.declared.refusal.ReadStop.TheVariants as read
use Rattle.brake_commands.specs.declared.setup_list.SetupsStop.{SetupsStop}
use Rattle.brake_commands.specs.declared.setup_list.SetupsStop.TheVariants as stop
use Rattle.brake_commands.specs.declared.setup_list.JobFiles.{JobFiles}
use Rattle.brake_commands.specs.declared.setup_list.SetupList.{SetupList as ReadSetups}
use Rattle.brake_commands.specs.declared.setup_list.FittedSetup.{FittedSetup}
use Rattle.brake_commands.specs.Stops.{refusal_data, StopsAt}
use Rattle.brake_commands.specs.SetupList.{JobFilesData, SetupList, SetupsFault, job_files_refused}
use Rattle.brake_commands.specs.SetupList.{setups_refused, IsFirstRefused}

-- what contracts see of the code's types
abbrev pub job_files_data : JobFiles → JobFilesData
job_files_data f = record {
  part = part_data f.part;
  tools = tools_data f.tools;
  machine = machine_data f.machine;
}

abbrev pub list_data : ReadSetups → SetupList
list_data l = record { files = job_files_data l.files; setups = setups_data l.setups }

-- a setup by its name, and what becomes of it on the machine
pub record FittedData : Type 0 where
  pub name : List ℕ
  pub fit : Fit

abbrev pub fitted_data : FittedSetup → FittedData
fitted_data f = record { name = f.name.bytes; fit = f.fit }

-- the setup fits on the machine so: as a job with the first choice of its pieces, or without a
-- choice
abbrev pub FitsAs : JobFilesData → OneSetupData → Fit → Type 0
FitsAs files one fit = IsFit files.part files.tools files.machine one (Ok fit)

pub record IsFitted (files : JobFilesData) (one : OneSetupData) (fitted : FittedData) : Type 0 where
  pub name : fitted.name ≡ one.name
  pub fits : FitsAs files one fitted.fit

-- the stop that a refusal of each step is
abbrev pub of_read_stop : ReadStop → SetupsStop
of_read_stop (read.Refused refusal) = stop.File refusal
of_read_stop read.NoMemory = stop.NoMemory

abbrev pub of_setup_fault : SetupFault → SetupsStop
of_setup_fault setup.NoMemory = stop.NoMemory
of_setup_fault fault = stop.Setups fault

-- the files or a refusal are what reading gives, unless memory ran out
abbrev pub ReadsJobFiles : Result JobFiles ReadStop → Result JobFilesData FileFault → Type 0
ReadsJobFiles (Ok files) read = read ≡ Ok (job_files_data files)
ReadsJobFiles (Err stop) read = StopsAt stop read

abbrev pub ListStopsAt : {A : Type 0} → SetupsStop → Result A SetupsFault → Type 0
ListStopsAt (stop.File refusal) read = read ≡ Err (job_files_refused (refusal_data refusal))
ListStopsAt (stop.Setups fault) read = read ≡ Err (setups_refused fault)
ListStopsAt stop.NoMemory read = Unit {0}

abbrev pub ReadsList : Result ReadSetups SetupsStop → Result SetupList SetupsFault → Type 0
ReadsList (Ok list) read = read ≡ Ok (list_data list)
ReadsList (Err stop) read = ListStopsAt stop read

-- it is a refusal, and this holds of it
abbrev pub IsFaultAnd : SetupsStop → (SetupsFault → Type 0) → Type 0
IsFaultAnd (stop.File refusal) P = P (job_files_refused (refusal_data refusal))
IsFaultAnd (stop.Setups fault) P = P (setups_refused fault)
IsFaultAnd stop.NoMemory P = ⊥

-- it is the refusal of the first setup that doesn't fit, unless memory ran out
abbrev pub StopsAtSetup : JobFilesData → List OneSetupData → SetupsStop → Type 0
StopsAtSetup files setups (stop.Setups (setup.Job place fault)) =
    IsFirstRefused (record { files = files; setups = setups }) place fault
StopsAtSetup files setups stop.NoMemory = Unit {0}
StopsAtSetup files setups _ = ⊥

-- all setups fit so, or the first that doesn't is refused
abbrev pub FitsList :
    JobFilesData → List OneSetupData → Result (Vec FittedSetup Global) SetupsStop → Type 0
FitsList files setups (Ok fits) = AllZip (IsFitted files) setups (map fitted_data fits.items)
FitsList files setups (Err stop) = StopsAtSetup files setups stop
