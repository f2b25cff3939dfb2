-- Why the reading of files stops early.
use Rattle.std.specs.Prelude.{◌≡◌, ℕ, List, Vec, Result, Ok, Err}
use Rattle.std.specs.declared.alloc.Global.{Global}
use Rattle.part_file.specs.declared.fault.PartFault.{PartFault}
use Rattle.part_file.specs.declared.fault.PartFault.TheVariants as part
use Rattle.tool_library.specs.declared.fault.ToolFault.{ToolFault}
use Rattle.tool_library.specs.declared.fault.ToolFault.TheVariants as tool
use Rattle.machine_file.specs.declared.fault.MachineFault.{MachineFault}
use Rattle.machine_file.specs.declared.fault.MachineFault.TheVariants as machine
use Rattle.job_setup.specs.declared.fault.JobFault.{JobFault}
use Rattle.job_setup.specs.JobOf.{FileFault, part_refused, tools_refused, machine_refused}
use Rattle.job_setup.specs.JobOf.{job_refused}
use Rattle.brake_commands.specs.declared.refusal.Refusal.{Refusal}
use Rattle.brake_commands.specs.declared.refusal.Refusal.TheVariants as refusal
use Rattle.brake_commands.specs.declared.refusal.ReadStop.{ReadStop}
use Rattle.brake_commands.specs.declared.refusal.ReadStop.TheVariants.{Refused, NoMemory}

-- the refusal, as the files' own definitions have it
abbrev pub refusal_data : Refusal → FileFault
refusal_data (refusal.Part fault) = part_refused fault
refusal_data (refusal.Tools fault) = tools_refused fault
refusal_data (refusal.Machine fault) = machine_refused fault
refusal_data (refusal.Job fault) = job_refused fault

-- the stop that a refusal of each step is
abbrev pub of_part : PartFault → ReadStop
of_part part.NoMemory = NoMemory
of_part fault = Refused (refusal.Part fault)

abbrev pub of_tools : ToolFault → ReadStop
of_tools tool.NoMemory = NoMemory
of_tools fault = Refused (refusal.Tools fault)

abbrev pub of_machine : MachineFault → ReadStop
of_machine machine.NoMemory = NoMemory
of_machine fault = Refused (refusal.Machine fault)

abbrev pub of_job : JobFault → ReadStop
of_job fault = Refused (refusal.Job fault)

-- a text or a refusal is what reading gives, unless memory ran out
abbrev pub StopsAt : {A : Type 0} → ReadStop → Result A FileFault → Type 0
StopsAt (Refused r) read = read ≡ Err (refusal_data r)
StopsAt NoMemory read = Unit {0}

abbrev pub Reads : Result (Vec ℕ Global) ReadStop → Result (List ℕ) FileFault → Type 0
Reads (Ok text) read = read ≡ Ok text.items
Reads (Err stop) read = StopsAt stop read

-- it is a refusal, and this holds of it
abbrev pub IsRefusalAnd : ReadStop → (FileFault → Type 0) → Type 0
IsRefusalAnd (Refused r) P = P (refusal_data r)
IsRefusalAnd NoMemory P = ⊥
