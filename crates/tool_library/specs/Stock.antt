-- What the shop's stock holds of a tool's pieces. Lengths are in micrometres.
use Rattle.std.specs.Prelude.{ℕ, ℤ, List, [], sum_by, count_by, if◌then◌else◌, Option, Some, None}
use Rattle.std.specs.Ordering.{int_eq}
use Rattle.tool_library.specs.Tools.{PunchData, DieData}

-- the sections of a punch or of a die, and none where there is no such tool
abbrev pub punch_sections : Option PunchData → List (ℤ × ℕ)
punch_sections None = []
punch_sections (Some punch) = punch.sections

abbrev pub die_sections : Option DieData → List (ℤ × ℕ)
die_sections None = []
die_sections (Some die) = die.sections

-- how many pieces of a length a section stands for
abbrev pub section_count : ℤ → ℤ × ℕ → ℕ
section_count piece section = if int_eq section.0 piece then section.1 else 0

-- how many pieces of a length the sections hold: the counts of a length that stands twice add up
abbrev pub held : List (ℤ × ℕ) → ℤ → ℕ
held sections piece = sum_by (section_count piece) sections

-- how many of the pieces have a length
abbrev pub count_of : ℤ → List ℤ → ℕ
count_of piece pieces = count_by (λ other. int_eq other piece) pieces
