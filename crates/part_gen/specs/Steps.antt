-- A flange by the state of the generator at which its draws begin.
use Rattle.std.specs.Prelude.{ℕ, ◌+◌, ◌*◌, ℤ, pos, ◌-ℤ◌, List, [], ◌∷◌}
use Rattle.part_file.specs.declared.part.Side.{Side}
use Rattle.part_file.specs.declared.part.Side.TheVariants.{N, E, S, W}
use Rattle.part_file.specs.Part.{FaceData}
use Rattle.part_gen.specs.Draws.{next, answer, state_after}
use Rattle.part_gen.specs.Generator.{root_face, first_face, second_face, dir_of}

-- a length at a state: the least one and up to m - 1 whole millimetres more
abbrev pub length_from : ℕ → ℕ → ℕ → ℤ
length_from x least m = pos (least + 1000 * answer x m)

-- the first flange of a side, of this width
abbrev pub first_from : ℕ → Side → ℤ → FaceData
first_from x side width =
    first_face side width (length_from x 20000 11) (dir_of (answer (next x) 2))

-- the second flange of a side, of this width, as the face of this number
abbrev pub second_from : ℕ → ℕ → Side → ℤ → FaceData
second_from x number side width =
    second_face number side width (length_from x 15000 6) (dir_of (answer (next x) 2))

-- face 0 of these sizes and the first flange of each of its sides, whose draws follow one another
abbrev pub first_faces : ℕ → ℤ → ℤ → List FaceData
first_faces x width length =
    root_face width length
    ∷ first_from x N (width -ℤ pos 4000)
    ∷ first_from (state_after 2 x) E (length -ℤ pos 4000)
    ∷ first_from (state_after 4 x) S (width -ℤ pos 4000)
    ∷ first_from (state_after 6 x) W (length -ℤ pos 4000) ∷ []
