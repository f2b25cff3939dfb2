-- The numbers of a refusal of the tools file.
use Rattle.std.specs.Prelude.{ℕ, List, [], ◌∷◌}
use Rattle.tool_library.specs.declared.fault.ToolFault.{ToolFault}
use Rattle.tool_library.specs.declared.fault.ToolFault.TheVariants.{NotToml, BadField, UnknownKey}
use Rattle.tool_library.specs.declared.fault.ToolFault.TheVariants.{TooMany, SameName, BadBox}
use Rattle.tool_library.specs.declared.fault.ToolFault.TheVariants.{NoMemory}

-- the number of the refusal, and then its own numbers
abbrev pub tool_numbers : ToolFault → List ℕ
tool_numbers NotToml = 1 ∷ []
tool_numbers (BadField table key) = 2 ∷ table ∷ key ∷ []
tool_numbers (UnknownKey table) = 3 ∷ table ∷ []
tool_numbers (TooMany table) = 4 ∷ table ∷ []
tool_numbers (SameName table) = 5 ∷ table ∷ []
tool_numbers (BadBox table) = 6 ∷ table ∷ []
tool_numbers NoMemory = 7 ∷ []
