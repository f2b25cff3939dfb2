-- What is refused, and the numbers of a refusal.
use Rattle.std.specs.Prelude.{ℕ, List, codes}
use Rattle.part_file.specs.FaultNumbers.{part_numbers}
use Rattle.tool_library.specs.FaultNumbers.{tool_numbers}
use Rattle.machine_file.specs.FaultNumbers.{machine_numbers}
use Rattle.job_setup.specs.FaultNumbers.{job_numbers}
use Rattle.job_setup.specs.JobOf.{FileFault, part_refused, tools_refused, machine_refused}
use Rattle.job_setup.specs.JobOf.{job_refused}
use Rattle.command_runner.specs.declared.status.Status.TheVariants.{Refused}
use Rattle.command_runner.specs.Answers.{AnswerData, refusal}

-- what is refused
abbrev pub refused_file : FileFault → List ℕ
refused_file (part_refused fault) = codes "refused part"
refused_file (tools_refused fault) = codes "refused tools"
refused_file (machine_refused fault) = codes "refused machine"
refused_file (job_refused fault) = codes "refused job"

-- the numbers of a refusal
abbrev pub fault_numbers : FileFault → List ℕ
fault_numbers (part_refused fault) = part_numbers fault
fault_numbers (tools_refused fault) = tool_numbers fault
fault_numbers (machine_refused fault) = machine_numbers fault
fault_numbers (job_refused fault) = job_numbers fault

-- the answer that puts the line of a refusal
abbrev pub file_refused : FileFault → AnswerData
file_refused fault = refusal Refused (refused_file fault) (fault_numbers fault)
