-- The bends of a stroke in words.
use Rattle.std.specs.Prelude.{ℕ, ◌+◌, ◌==◌, if◌then◌else◌, pos, List, [], ◌∷◌, ◌++◌, codes, length}
use Rattle.std.specs.Fmt.{signed_decimal}
use Rattle.sheet_words.specs.Lists.{separator}

-- a number at a place of a list of so many, and the last numbers of such a list, from a place on
unfoldable pub listed_number : (at count number : ℕ) → List ℕ
listed_number at count number = separator at count ++ signed_decimal (pos number)

abbrev pub number_words : (at count : ℕ) → (numbers : List ℕ) → List ℕ
number_words at count [] = []
number_words at count (number ∷ numbers) =
    listed_number at count number ++ number_words (at + 1) count numbers

-- the word before one bend or before several
unfoldable pub bend_word : (count : ℕ) → List ℕ
bend_word count = if count == 1 then codes "Bend " else codes "Bends "

-- `Bend B`, or `Bends B and C`
abbrev pub bend_words : List ℕ → List ℕ
bend_words bends = bend_word (length bends) ++ number_words 0 (length bends) bends
