-- Texts of a page, in which nothing is markup.
use Rattle.std.specs.Prelude.{◌≡◌, ℕ, ◌==◌, ◌||◌, Bool, true, false, List, [], ◌∷◌, ◌++◌, codes, if◌then◌else◌}
use Rattle.std.specs.List.{flat_map}

-- the byte could begin or end markup: an ampersand, an angle bracket or a quotation mark
abbrev pub is_markup : ℕ → Bool
is_markup byte = (byte == 38) || (byte == 60) || (byte == 62) || (byte == 34) || (byte == 39)

-- a byte, or the mark that stands for it
unfoldable pub escaped_byte : ℕ → List ℕ
escaped_byte byte =
    if byte == 38 then codes "&amp;"
    else if byte == 60 then codes "&lt;"
    else if byte == 62 then codes "&gt;"
    else if byte == 34 then codes "&quot;"
    else if byte == 39 then codes "&#39;"
    else byte ∷ []

-- a text, byte by byte
abbrev pub escaped : List ℕ → List ℕ
escaped text = flat_map escaped_byte text

-- the page's text is read as these bytes: each stands as it is where it couldn't begin or end
-- markup, and else by its mark
pub data IsReadAs : List ℕ → List ℕ → Type 0 where
  empty : IsReadAs [] []
  plain : (byte : ℕ) (text bytes : List ℕ) → is_markup byte ≡ false → IsReadAs text bytes
      → IsReadAs (byte ∷ text) (byte ∷ bytes)
  marked : (byte : ℕ) (text bytes : List ℕ) → is_markup byte ≡ true → IsReadAs text bytes
      → IsReadAs (escaped_byte byte ++ text) (byte ∷ bytes)
