-- What the reading of any line cites: its keyword, the text behind it, and what there is where a
-- test passes.
use Rattle.std.specs.Prelude.{◌≡◌, ◌≢◌, ℕ, Bool, true, false, List, ◌∷◌, ◌++◌, All, take, drop}
use Rattle.std.specs.Prelude.{Option, None}
use Rattle.std.specs.List.{slice_split}
use Rattle.brake_text.specs.Lines.{is_line_feed}
use Rattle.cert_words.specs.LineWords.{word_length}

-- what there is, where a test passes
abbrev pub only_if : {A : Type 0} → Bool → Option A → Option A
only_if true there = there
only_if false there = None

-- a line's first word, and the text behind it
abbrev pub keyword_in : List ℕ → List ℕ
keyword_in line = take (word_length line) line

abbrev pub behind_keyword : List ℕ → List ℕ
behind_keyword line = drop (word_length line) line

-- the lines of a text without their line feeds, and what stands behind the last line feed
abbrev pub lines_in : List ℕ → List (List ℕ)
lines_in text = slice_split is_line_feed text

-- the text is this line, its line feed and what stands behind it
pub record IsCut (text line rest : List ℕ) : Type 0 where
  pub whole : text ≡ line ++ 10 ∷ rest
  pub alone : All (λ byte. byte ≢ 10) line

-- the text is some bytes and then these
abbrev pub IsBehind : List ℕ → List ℕ → Type 0
IsBehind text rest = (front : List ℕ) × (text ≡ front ++ rest)
