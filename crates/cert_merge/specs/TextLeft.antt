-- What is left of a table's text that is given in pieces.
use Rattle.std.specs.Prelude.{◌≡◌, ℕ, Bool, true, false, List, [], ◌++◌, codes}

-- the text of the last line, unless it was given
unfoldable pub end_text : Bool → List ℕ
end_text true = []
end_text false = codes "end\n"

-- what is left of its beginning, the rows that are left, and the last line
abbrev pub text_left : List ℕ → List ℕ → Bool → List ℕ
text_left beginning rows is_ended = beginning ++ rows ++ end_text is_ended

-- a text has gone on with a piece of the rows, of which the others are left
pub record GoesOn (old new before after : List ℕ) : Type 0 where
  pub piece : List ℕ
  pub text : new ≡ old ++ piece
  pub rest : before ≡ piece ++ after
