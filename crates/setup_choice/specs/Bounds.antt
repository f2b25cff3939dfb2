-- The ends of the ranges of a setups file, as docs/formats.md states them; lengths are in
-- micrometres. The code has constants of its own, and its contracts tie each of them to its number
-- here. What a setup has in common with a machine's stages stands in machine_file.
use Rattle.std.specs.Prelude.{ℕ, ℤ, pos}

-- the greatest number of setups
abbrev pub most_setups : ℕ
most_setups = 16

-- of the length of a wanted stage: at most 20 m
abbrev pub least_stage_length : ℤ
least_stage_length = pos 1

abbrev pub greatest_stage_length : ℤ
greatest_stage_length = pos 20000000
