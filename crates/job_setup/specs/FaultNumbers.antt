-- The numbers of a refusal of a job.
use Rattle.std.specs.Prelude.{ℕ, List, [], ◌∷◌}
use Rattle.allowance.specs.FaultNumbers.{allow_number}
use Rattle.unfolder.specs.FaultNumbers.{unfold_numbers}
use Rattle.job_setup.specs.declared.fault.JobFault.{JobFault}
use Rattle.job_setup.specs.declared.fault.JobFault.TheVariants.{Allow, Unfold, UnknownTool}
use Rattle.job_setup.specs.declared.fault.JobFault.TheVariants.{UnequalHeight, StageOverlap, OffBed}
use Rattle.job_setup.specs.declared.fault.JobFault.TheVariants.{NoStage, StockShort, NoLoad}
use Rattle.job_setup.specs.declared.fault.JobFault.TheVariants.{TwoLoads}

-- the number of the refusal, and then its own numbers; those of the deduction or of the blank stand
-- behind that of the job
abbrev pub job_numbers : JobFault → List ℕ
job_numbers (Allow fault) = 1 ∷ allow_number fault ∷ []
job_numbers (Unfold fault) = 2 ∷ unfold_numbers fault
job_numbers (UnknownTool stage) = 3 ∷ stage ∷ []
job_numbers (UnequalHeight stage) = 4 ∷ stage ∷ []
job_numbers (StageOverlap a b) = 5 ∷ a ∷ b ∷ []
job_numbers (OffBed stage) = 6 ∷ stage ∷ []
job_numbers NoStage = 7 ∷ []
job_numbers (StockShort stage) = 8 ∷ stage ∷ []
job_numbers (NoLoad stage) = 9 ∷ stage ∷ []
job_numbers (TwoLoads stage) = 10 ∷ stage ∷ []
