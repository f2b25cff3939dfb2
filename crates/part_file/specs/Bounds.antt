-- The ends of the ranges of a part file, as docs/formats.md states them; lengths are in
-- micrometres. The code has constants of its own, and its contracts tie each of them to its number
-- here.
use Rattle.std.specs.Prelude.{ℕ, ℤ, pos}

-- of the thickness of the sheet
abbrev pub least_thickness : ℤ
least_thickness = pos 2

abbrev pub greatest_thickness : ℤ
greatest_thickness = pos 50000

-- of the inner radius of the bends
abbrev pub least_radius : ℤ
least_radius = pos 1

abbrev pub greatest_radius : ℤ
greatest_radius = pos 50000

-- of the width and the length of a face
abbrev pub least_size : ℤ
least_size = pos 1

abbrev pub greatest_size : ℤ
greatest_size = pos 10000000

-- the greatest number of faces
abbrev pub most_faces : ℕ
most_faces = 13
