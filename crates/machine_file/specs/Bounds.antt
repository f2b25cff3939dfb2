-- The ends of the ranges of a machine file, as docs/formats.md states them; lengths are in
-- micrometres. The code has constants of its own, and its contracts tie each of them to its number
-- here.
use Rattle.std.specs.Prelude.{ℕ, ℤ, pos}

-- the greatest distance of a coordinate from 0: 20 m
abbrev pub coordinate_limit : ℤ
coordinate_limit = pos 20000000

-- the greatest number of side frames
abbrev pub most_frames : ℕ
most_frames = 4

-- the greatest number of boxes above the bed, and of boxes below it
abbrev pub most_fixed_boxes : ℕ
most_fixed_boxes = 16

-- the greatest number of stages
abbrev pub most_stages : ℕ
most_stages = 6

-- the greatest number of a stage's pieces
abbrev pub most_pieces : ℕ
most_pieces = 32

-- of the length of a piece
abbrev pub least_piece : ℤ
least_piece = pos 1

abbrev pub greatest_piece : ℤ
greatest_piece = pos 10000000

-- the greatest length that may stay uncovered at each end of a bend line
abbrev pub greatest_uncovered : ℤ
greatest_uncovered = pos 1000000

-- the greatest length of the backgauge
abbrev pub greatest_gauge_length : ℤ
greatest_gauge_length = pos 10000000

-- the least width and the least depth of a finger
abbrev pub least_finger : ℤ
least_finger = pos 1

-- the greatest cost, in tenths of a second
abbrev pub greatest_cost : ℕ
greatest_cost = 1000000

-- the greatest limit of the force, in newtons; the least is 0, which stands for no limit
abbrev pub greatest_force : ℤ
greatest_force = pos 100000000

-- the greatest number of times that a piece of the part may be halved in a row
abbrev pub greatest_fine : ℕ
greatest_fine = 12
