-- What a command answers.
use Rattle.std.specs.Prelude.{ℕ, pos, List, [], ◌∷◌, ◌++◌, map, codes, string_bytes}
use Rattle.std.specs.List.{flat_map}
use Rattle.std.specs.Vec.{vec_items}
use Rattle.std.specs.Fmt.{signed_decimal}
use Rattle.command_runner.specs.declared.status.Status.{Status}
use Rattle.command_runner.specs.declared.status.Status.TheVariants.{Refused}
use Rattle.command_runner.specs.declared.answer.StoredText.{StoredText}
use Rattle.command_runner.specs.declared.answer.Answer.{Answer}

-- a text, and the name under which it is stored
pub record StoredData : Type 0 where
  pub name : List ℕ
  pub text : List ℕ

-- what is stored, in order, how the run ends, and the texts that are put, in order
pub record AnswerData : Type 0 where
  pub stored : List StoredData
  pub status : Status
  pub texts : List (List ℕ)

abbrev pub stored_data : StoredText → StoredData
stored_data s = record { name = string_bytes s.name; text = s.text.items }

abbrev pub answer_data : Answer → AnswerData
answer_data a =
    record {
      stored = map stored_data a.stored.items;
      status = a.status;
      texts = map vec_items a.texts.items;
    }

-- the whole text of an answer
abbrev pub concatenation : List (List ℕ) → List ℕ
concatenation texts = flat_map (λ (text : List ℕ). text) texts

-- an answer that stores nothing and puts one text
abbrev pub one_text : Status → List ℕ → AnswerData
one_text status text = record { stored = []; status = status; texts = text ∷ [] }

-- the answer that stores these texts first
abbrev pub after_storing : List StoredData → AnswerData → AnswerData
after_storing first answer = record answer { stored = first ++ answer.stored }

-- one text that is stored
abbrev pub one_stored : List ℕ → List ℕ → List StoredData
one_stored name text = record { name = name; text = text } ∷ []

-- a number behind a space
unfoldable pub field : ℕ → List ℕ
field n = codes " " ++ signed_decimal (pos n)

abbrev pub fields : List ℕ → List ℕ
fields numbers = flat_map field numbers

-- the line of a refusal: what is refused, and its numbers
unfoldable pub refusal_line : List ℕ → List ℕ → List ℕ
refusal_line what numbers = what ++ fields numbers ++ codes "\n"

-- the answer that puts the line of a refusal
abbrev pub refusal : Status → List ℕ → List ℕ → AnswerData
refusal status what numbers = one_text status (refusal_line what numbers)

-- the answer that a file is longer than it may be, by the number of its file word
abbrev pub long_refused : ℕ → AnswerData
long_refused number = refusal Refused (codes "refused long") (number ∷ [])
