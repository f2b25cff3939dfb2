-- The parts of the line of a row.
use Rattle.std.specs.Prelude.{ℕ, List, ◌++◌, codes}
use Rattle.cert_lines.specs.Lines.{number, spaced}

-- the beginning of the line of a row at a set of folded bends, by its number
abbrev pub row_start : ℕ → List ℕ
row_start mask = codes "row" ++ spaced (number mask)

-- the words of an attitude and a stage
abbrev pub key_words : ℕ → ℕ → List ℕ
key_words attitude stage = spaced (number attitude) ++ spaced (number stage)
