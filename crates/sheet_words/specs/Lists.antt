-- Lists, counts and lengths in words.
use Rattle.std.specs.Prelude.{ℕ, ◌+◌, ◌==◌, ℤ, pos, List, [], ◌++◌, codes, if◌then◌else◌}
use Rattle.std.specs.Fmt.{signed_decimal}
use Rattle.svg_text.specs.Decimals.{decimal_text}

-- what stands before the word at a place of a list of so many, counted from 0
unfoldable pub separator : (at count : ℕ) → List ℕ
separator at count =
    if at == 0 then [] else if at + 1 == count then codes " and " else codes ", "

-- what stands behind the word for so many things
unfoldable pub plural_ending : ℕ → List ℕ
plural_ending count = if count == 1 then [] else codes "s"

-- a count and the word for it, with an s where there isn't one
unfoldable pub plural : (count : ℕ) → (word : List ℕ) → List ℕ
plural count word = signed_decimal (pos count) ++ codes " " ++ word ++ plural_ending count

-- micrometres in millimetres
abbrev pub mm : ℤ → List ℕ
mm length = decimal_text 3 length

-- tenths of a second in seconds
abbrev pub seconds : ℕ → List ℕ
seconds tenths = decimal_text 1 (pos tenths)
