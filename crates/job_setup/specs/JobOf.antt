-- The job of a part, tools and a machine, or the first refusal; and that of three files.
use Rattle.std.specs.Prelude.{ℕ, ℤ, List, Result, Ok, Err}
use Rattle.toml_fields.specs.Results.{◌>>=◌, each_from}
use Rattle.part_file.specs.declared.fault.PartFault.{PartFault}
use Rattle.part_file.specs.Part.{PartData}
use Rattle.part_file.specs.PartFile.{part_of}
use Rattle.allowance.specs.AllowTable.{half_deduction_in}
use Rattle.unfolder.specs.Blank.{BlankData, blank_of_part}
use Rattle.tool_library.specs.declared.fault.ToolFault.{ToolFault}
use Rattle.tool_library.specs.Tools.{ToolsData}
use Rattle.tool_library.specs.ToolsFile.{tools_of}
use Rattle.machine_file.specs.declared.fault.MachineFault.{MachineFault}
use Rattle.machine_file.specs.Machine.{MachineData}
use Rattle.machine_file.specs.MachineFile.{machine_of}
use Rattle.job_setup.specs.declared.fault.JobFault.{JobFault}
use Rattle.job_setup.specs.declared.fault.JobFault.TheVariants.{Allow, Unfold}
use Rattle.job_setup.specs.Setup.{StageData, SetupData, JobData}
use Rattle.job_setup.specs.Stages.{stage_of_text}
use Rattle.job_setup.specs.Places.{places_fit}
use Rattle.job_setup.specs.Stock.{stock_suffices}
use Rattle.job_setup.specs.Loads.{loads_fit}

-- the value, or its refusal within the refusal of the whole
abbrev pub refusing : {A E F : Type 0} → (E → F) → Result A E → Result A F
refusing fault (Ok x) = Ok x
refusing fault (Err e) = Err (fault e)

-- whether the part unfolds, or the refusal
abbrev pub unfolds : PartData → ℤ → Result (Unit {0}) JobFault
unfolds part q = refusing Unfold (blank_of_part part q) >>= λ blank. Ok tt

-- the machine with these stages
abbrev pub setup_of : MachineData → List StageData → SetupData
setup_of m stages = record {
  bed = m.bed;
  frames = m.frames;
  upper = m.upper;
  lower = m.lower;
  uncovered = m.uncovered;
  gauge = m.gauge;
  cost = m.cost;
  stages = stages;
  gang = m.gang;
  force = m.force;
  fine = m.fine;
}

-- the stages fit the bed, the stock and the load table, or the first refusal
unfoldable pub stages_fit :
    PartData → ToolsData → MachineData → List StageData → Result (Unit {0}) JobFault
stages_fit part tools machine stages = do
  placed ← places_fit machine.bed stages
  stocked ← stock_suffices tools machine.stages
  loads_fit part tools.loads stages

-- the job of a part with this half deduction, tools and a machine, or the first refusal
unfoldable pub job_with : PartData → ℤ → ToolsData → MachineData → Result JobData JobFault
job_with part q tools machine = do
  unfolded ← unfolds part q
  stages ← each_from (stage_of_text part tools) 0 machine.stages
  fitted ← stages_fit part tools machine stages
  Ok (record { part = part; q = q; setup = setup_of machine stages })

-- the job of a part, tools and a machine, or the first refusal
unfoldable pub job_in : PartData → ToolsData → MachineData → Result JobData JobFault
job_in part tools machine = do
  q ← refusing Allow (half_deduction_in tools.allow part)
  job_with part q tools machine

-- a part with its blank
pub record FlatPart : Type 0 where
  pub part : PartData
  pub blank : BlankData

-- the part with its blank by the deductions of a shop's tools, or the first refusal
unfoldable pub blank_in : PartData → ToolsData → Result FlatPart JobFault
blank_in part tools = do
  q ← refusing Allow (half_deduction_in tools.allow part)
  blank ← refusing Unfold (blank_of_part part q)
  Ok (record { part = part; blank = blank })

-- why files give no job
pub data FileFault : Type 0 where
  part_refused : PartFault → FileFault
  tools_refused : ToolFault → FileFault
  machine_refused : MachineFault → FileFault
  job_refused : JobFault → FileFault

-- the job of three files, or the first refusal: of the part, of the tools, of the machine, of the
-- job
unfoldable pub job_of : List ℕ → List ℕ → List ℕ → Result JobData FileFault
job_of part_bytes tools_bytes machine_bytes = do
  part ← refusing part_refused (part_of part_bytes)
  tools ← refusing tools_refused (tools_of tools_bytes)
  machine ← refusing machine_refused (machine_of machine_bytes)
  refusing job_refused (job_in part tools machine)

-- the part of two files with its blank, or the first refusal: of the part, of the tools, of the job
unfoldable pub blank_of : List ℕ → List ℕ → Result FlatPart FileFault
blank_of part_bytes tools_bytes = do
  part ← refusing part_refused (part_of part_bytes)
  tools ← refusing tools_refused (tools_of tools_bytes)
  refusing job_refused (blank_in part tools)
