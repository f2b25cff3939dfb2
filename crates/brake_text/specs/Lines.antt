-- The lines of a text, each ended by a line feed but for a last one that may have none.
use Rattle.std.specs.Prelude.{◌≡◌, ◌≢◌, ℕ, Bool, true, false, ◌==◌, List, [], ◌∷◌, ◌++◌, All}

-- the byte of a line feed
abbrev pub is_line_feed : ℕ → Bool
is_line_feed byte = byte == 10

-- the text is a line and its line feed and the rest, or a last line that has none
abbrev pub BeginsWithLine : List ℕ → List ℕ → Bool → List ℕ → Type 0
BeginsWithLine text line true rest = (text ≡ line ++ 10 ∷ rest) × All (λ byte. byte ≢ 10) line
BeginsWithLine text line false rest = (text ≡ line) × (rest ≡ []) × All (λ byte. byte ≢ 10) line
