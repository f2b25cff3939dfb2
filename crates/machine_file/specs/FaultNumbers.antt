-- The numbers of a refusal of the machine file.
use Rattle.std.specs.Prelude.{ℕ, List, [], ◌∷◌}
use Rattle.machine_file.specs.declared.fault.MachineFault.{MachineFault}
use Rattle.machine_file.specs.declared.fault.MachineFault.TheVariants.{NotToml, BadField}
use Rattle.machine_file.specs.declared.fault.MachineFault.TheVariants.{UnknownKey, TooMany, BadBox}
use Rattle.machine_file.specs.declared.fault.MachineFault.TheVariants.{NoMemory}

-- the number of the refusal, and then its own numbers
abbrev pub machine_numbers : MachineFault → List ℕ
machine_numbers NotToml = 1 ∷ []
machine_numbers (BadField table key) = 2 ∷ table ∷ key ∷ []
machine_numbers (UnknownKey table) = 3 ∷ table ∷ []
machine_numbers (TooMany table) = 4 ∷ table ∷ []
machine_numbers (BadBox table) = 5 ∷ table ∷ []
machine_numbers NoMemory = 6 ∷ []
