-- The ends of the ranges of a tools file, as docs/formats.md states them; those of an allow row are
-- allowance's. Lengths are in micrometres, loads and limits in newtons per millimetre. The code has
-- constants of its own, and its contracts tie each of them to its number here.
use Rattle.std.specs.Prelude.{ℕ, ℤ, pos}

-- the greatest number of punches
abbrev pub most_punches : ℕ
most_punches = 32

-- the greatest number of dies
abbrev pub most_dies : ℕ
most_dies = 32

-- the greatest number of load rows
abbrev pub most_load_rows : ℕ
most_load_rows = 256

-- the greatest number of boxes of a body
abbrev pub most_body_boxes : ℕ
most_body_boxes = 8

-- the greatest number of sections of a tool
abbrev pub most_sections : ℕ
most_sections = 16

-- of the height of a tool
abbrev pub least_height : ℤ
least_height = pos 1

abbrev pub greatest_height : ℤ
greatest_height = pos 1000000

-- the greatest distance of a body's boxes from the tool's middle, across the bed
abbrev pub farthest_across : ℤ
farthest_across = pos 1000000

-- of the length of a section
abbrev pub least_section_length : ℤ
least_section_length = pos 1

abbrev pub greatest_section_length : ℤ
greatest_section_length = pos 10000000

-- of the count of a section
abbrev pub least_section_count : ℤ
least_section_count = pos 1

abbrev pub greatest_section_count : ℤ
greatest_section_count = pos 1000

-- of the width of a die's opening
abbrev pub least_opening : ℤ
least_opening = pos 2

abbrev pub greatest_opening : ℤ
greatest_opening = pos 1000000

-- the greatest that a die's shortest flange may be
abbrev pub greatest_flange : ℤ
greatest_flange = pos 1000000

-- the greatest limit of a tool's load; the least is 0, which stands for no limit
abbrev pub greatest_limit : ℤ
greatest_limit = pos 1000000

-- of the load of a load row
abbrev pub least_load : ℤ
least_load = pos 1

abbrev pub greatest_load : ℤ
greatest_load = pos 1000000
