-- The ends of the ranges of an allow row, as docs/formats.md states them; those of its thickness
-- and radius are part_file's. The code has constants of its own, and the contracts of the tools'
-- reader tie each of them to its number here.
use Rattle.std.specs.Prelude.{ℕ, ℤ, pos}

-- of the correction factor, in thousandths
abbrev pub least_factor : ℤ
least_factor = pos 0

abbrev pub greatest_factor : ℤ
greatest_factor = pos 1000

-- of the half deduction that is measured, in micrometres; none by a factor is greater
abbrev pub least_measured : ℤ
least_measured = pos 1

abbrev pub greatest_half_deduction : ℤ
greatest_half_deduction = pos 100000

-- the greatest number of rows
abbrev pub most_allow_rows : ℕ
most_allow_rows = 256
