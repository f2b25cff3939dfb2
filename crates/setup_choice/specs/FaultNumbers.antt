-- The numbers of a refusal of the setups file or of a setup's job.
use Rattle.std.specs.Prelude.{ℕ, List, [], ◌∷◌}
use Rattle.job_setup.specs.FaultNumbers.{job_numbers}
use Rattle.setup_choice.specs.declared.fault.SetupFault.{SetupFault}
use Rattle.setup_choice.specs.declared.fault.SetupFault.TheVariants.{NotToml, BadField}
use Rattle.setup_choice.specs.declared.fault.SetupFault.TheVariants.{UnknownKey, TooMany, SameName}
use Rattle.setup_choice.specs.declared.fault.SetupFault.TheVariants.{Job, NoMemory}

-- the number of the refusal, and then its own numbers; those of a job stand behind that of its
-- setup
abbrev pub setup_numbers : SetupFault → List ℕ
setup_numbers NotToml = 1 ∷ []
setup_numbers (BadField table key) = 2 ∷ table ∷ key ∷ []
setup_numbers (UnknownKey table) = 3 ∷ table ∷ []
setup_numbers (TooMany table) = 4 ∷ table ∷ []
setup_numbers (SameName setup) = 5 ∷ setup ∷ []
setup_numbers (Job setup fault) = 6 ∷ setup ∷ job_numbers fault
setup_numbers NoMemory = 7 ∷ []
