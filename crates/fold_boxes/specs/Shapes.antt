-- A part with the half deduction of its bends.
use Rattle.std.specs.Prelude.{ℕ, ℤ, pos, ◌-ℤ◌, ◌≤ℤ◌, IsOk}
use Rattle.part_file.specs.Part.{PartData, IsPart, half_thickness, along}
use Rattle.unfolder.specs.Cores.{joint_of, core, line_start, line_end}
use Rattle.unfolder.specs.Blank.{blank_of_part}
use Rattle.unfolder.specs.Fold.{dot, minus}

-- a part, and q, half of what its outside sizes lose at each bend
pub record ShapeData : Type 0 where
  pub part : PartData
  pub q : ℤ

-- h: how far the mould line in the mid-plane lies beyond a core's edge
abbrev pub mould_distance : ShapeData → ℤ
mould_distance shape = shape.q -ℤ half_thickness shape.part

-- the sizes of the core of face f
abbrev pub core_width : ShapeData → ℕ → ℤ
core_width shape f = (core shape.part.faces shape.q f).x1 -ℤ (core shape.part.faces shape.q f).x0

abbrev pub core_length : ShapeData → ℕ → ℤ
core_length shape f = (core shape.part.faces shape.q f).y1 -ℤ (core shape.part.faces shape.q f).y0

-- how far the line of bend b runs along its parent's side
abbrev pub line_length : ShapeData → ℕ → ℤ
line_length shape b =
    dot (minus (line_end shape.part.faces shape.q b) (line_start shape.part.faces shape.q b))
    (along (joint_of shape.part.faces b).side)

-- a part that meets its rules, and unfolds with this half deduction
pub record IsShape (shape : ShapeData) : Type 0 where
  pub part : IsPart shape.part
  pub q_low : half_thickness shape.part ≤ℤ shape.q
  pub q_high : shape.q ≤ℤ pos 100000
  pub unfolds : IsOk (blank_of_part shape.part shape.q)
