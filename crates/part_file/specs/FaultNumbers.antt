-- The numbers of a refusal of the part file.
use Rattle.std.specs.Prelude.{ℕ, List, [], ◌∷◌}
use Rattle.part_file.specs.declared.fault.PartFault.{PartFault}
use Rattle.part_file.specs.declared.fault.PartFault.TheVariants.{NotToml, BadField, UnknownKey}
use Rattle.part_file.specs.declared.fault.PartFault.TheVariants.{TooMany, BadSize, UnknownParent}
use Rattle.part_file.specs.declared.fault.PartFault.TheVariants.{OddThickness, SameName, NoMemory}

-- the number of the refusal, and then its own numbers
abbrev pub part_numbers : PartFault → List ℕ
part_numbers NotToml = 1 ∷ []
part_numbers (BadField table key) = 2 ∷ table ∷ key ∷ []
part_numbers (UnknownKey table) = 3 ∷ table ∷ []
part_numbers TooMany = 4 ∷ []
part_numbers (BadSize face) = 5 ∷ face ∷ []
part_numbers (UnknownParent face) = 6 ∷ face ∷ []
part_numbers OddThickness = 7 ∷ []
part_numbers (SameName face) = 8 ∷ face ∷ []
part_numbers NoMemory = 9 ∷ []
