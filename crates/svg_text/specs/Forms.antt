-- Lines of a page: forms whose holes are filled.
use Rattle.std.specs.Prelude.{ℕ, ◌<◌, ◌≤◌, ◌==◌, List, [], ◌∷◌, ◌++◌, codes, map, if◌then◌else◌}
use Rattle.std.specs.Fmt.{signed_decimal}
use Rattle.svg_text.specs.declared.form.Hole.{Hole}
use Rattle.svg_text.specs.declared.form.Hole.TheVariants.{Number, Decimal, Text, Word}
use Rattle.svg_text.specs.Decimals.{decimal_text}
use Rattle.svg_text.specs.Escapes.{escaped}

-- what can stand in a hole: a decimal has 1 to 6 places
abbrev pub IsHole : Hole → Type 0
IsHole (Decimal value places) = (0 < places) × (places ≤ 6)
IsHole (Number value) = Unit {0}
IsHole (Text text) = Unit {0}
IsHole (Word word) = Unit {0}

-- what stands in a hole
unfoldable pub hole_text : Hole → List ℕ
hole_text (Number value) = signed_decimal value
hole_text (Decimal value places) = decimal_text places value
hole_text (Text text) = escaped text.now
hole_text (Word word) = word.now

-- a form in which each mark, which is the byte 126, has become the next of these texts
abbrev pub filled : List ℕ → List (List ℕ) → List ℕ
filled [] texts = []
filled (byte ∷ form) [] = if byte == 126 then filled form [] else byte ∷ filled form []
filled (byte ∷ form) (text ∷ texts) =
    if byte == 126 then text ++ filled form texts else byte ∷ filled form (text ∷ texts)

-- the line of a form and the texts in its holes
unfoldable pub line_of : List ℕ → List (List ℕ) → List ℕ
line_of form texts = filled form texts ++ codes "\n"

-- the line of a form and what stands in its holes
abbrev pub line_text : List ℕ → List Hole → List ℕ
line_text form holes = line_of form (map hole_text holes)
