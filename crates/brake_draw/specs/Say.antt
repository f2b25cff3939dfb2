-- What `brake_draw` answers to words that fetch nothing.
use Rattle.std.specs.Prelude.{ℕ, Bool, false, List, [], ◌∷◌, ◌++◌, codes, bytes_eq, Option, Some, None}
use Rattle.std.specs.Prelude.{if◌then◌else◌}
use Rattle.std.specs.List.{flat_map}
use Rattle.cert_lines.specs.Lines.{spaced}
use Rattle.refusal_words.specs.Sentences.{sentence}
use Rattle.command_runner.specs.declared.status.Status.TheVariants.{Done, Usage}
use Rattle.command_runner.specs.Answers.{AnswerData, one_text}

unfoldable pub usage_text : List ℕ
usage_text = codes "usage: brake_draw CERT OUT\n" ++ codes "usage: brake_draw say LINE\n"

-- the answer to words that have no form
abbrev pub usage : AnswerData
usage = one_text Usage usage_text

-- words joined by single spaces
abbrev pub joined : List (List ℕ) → List ℕ
joined [] = []
joined (word ∷ words) = word ++ flat_map spaced words

-- a sentence as a line, where there is one
abbrev pub sentence_line : Option (List ℕ) → List ℕ
sentence_line (Some words) = words ++ codes "\n"
sentence_line None = []

-- the answer to a line: its sentence, or the usage text where it has none
abbrev pub said_with : Option (List ℕ) → AnswerData
said_with (Some words) = one_text Done (words ++ codes "\n")
said_with None = usage

abbrev pub said : List ℕ → AnswerData
said line = said_with (sentence line)

-- a first word `say` asks for the sentence of the line that the others are
unfoldable pub is_say : List ℕ → Bool
is_say word = bytes_eq word (codes "say")

abbrev pub is_saying : List (List ℕ) → Bool
is_saying [] = false
is_saying (first ∷ words) = is_say first

-- the answer to words that fetch nothing: to `say LINE`, and to words that have no form
abbrev pub answer_at_once : List (List ℕ) → AnswerData
answer_at_once [] = usage
answer_at_once (first ∷ words) = if is_say first then said (joined words) else usage
