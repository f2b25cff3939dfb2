-- What a choice takes of the shop's stock of a tool's pieces, and how long they are together.
-- Lengths are in micrometres.
use Rattle.std.specs.Prelude.{ℕ, ◌+◌, ◌*◌, ◌==◌, ℤ, List, ◌∷◌, sum_by, Bool, unsigned_abs}
use Rattle.std.specs.Prelude.{if◌then◌else◌}
use Rattle.std.specs.List.{slice_get}
use Rattle.tool_library.specs.Tools.{ToolsData}
use Rattle.tool_library.specs.Stock.{punch_sections, die_sections, count_of}
use Rattle.piece_pick.specs.declared.want.Want.{Want}
use Rattle.piece_pick.specs.declared.stock.Tool.{Tool}
use Rattle.piece_pick.specs.declared.stock.Tool.TheVariants.{Punch, Die}

-- the lengths that the shop has of the tool at a place, and how often
abbrev pub sections_of : ToolsData → Tool → List (ℤ × ℕ)
sections_of tools (Punch place) = punch_sections (slice_get tools.punches place)
sections_of tools (Die place) = die_sections (slice_get tools.dies place)

-- the want is one of the tool's
abbrev pub is_of : Tool → Want → Bool
is_of (Punch place) want = want.punch == place
is_of (Die place) want = want.die == place

-- how many pieces of a length a list of a want's pieces takes from the tool
abbrev pub taken_by : Tool → ℤ → Want → List ℤ → ℕ
taken_by tool piece want pieces = if is_of tool want then count_of piece pieces else 0

-- how many pieces of a length the lists of the wants take from the tool
abbrev pub taken : Tool → ℤ → List Want → List (List ℤ) → ℕ
taken tool piece (want ∷ wants) (pieces ∷ lists) =
    taken_by tool piece want pieces + taken tool piece wants lists
taken tool piece _ _ = 0

-- how long the pieces of a section are together, and those of sections
abbrev pub section_length : ℤ × ℕ → ℕ
section_length section = unsigned_abs section.0 * section.1

abbrev pub stock_length : List (ℤ × ℕ) → ℕ
stock_length sections = sum_by section_length sections

-- how long the pieces that a want takes from the tool are together, and those of wants
abbrev pub needed_by : Tool → Want → ℕ
needed_by tool want = if is_of tool want then unsigned_abs want.length else 0

abbrev pub needed : Tool → List Want → ℕ
needed tool wants = sum_by (needed_by tool) wants
