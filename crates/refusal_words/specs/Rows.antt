-- How a line begins as a row says. A row has the bytes of a line, with a mark for each number, and
-- behind the byte `|` what is said of it.
use Rattle.std.specs.Prelude.{ℕ, ◌==◌, ◌&&◌, nat_le, nat_lt, List, [], ◌∷◌, take, drop}
use Rattle.std.specs.Prelude.{Option, Some, None, if◌then◌else◌}
use Rattle.brake_text.specs.Numbers.{number_of}
use Rattle.cert_words.specs.LineWords.{◌>>=◌, word_length}
use Rattle.refusal_words.specs.declared.mark.Mark.{Mark}
use Rattle.refusal_words.specs.declared.row.Told.{Told}
use Rattle.refusal_words.specs.declared.row.Numbers.{Numbers}
use Rattle.refusal_words.specs.declared.row.Begun.{Begun as BegunText}
use Rattle.refusal_words.specs.Marks.{mark_of, low_of, end_of}

-- what begins as a row says: its first and its last number, what is said of it, and the text behind
pub record Begun : Type 0 where
  pub numbers : Numbers
  pub words : List ℕ
  pub rest : List ℕ

abbrev pub begun_data : BegunText → Begun
begun_data b = record { numbers = b.numbers; words = b.words.now; rest = b.rest.now }

abbrev pub no_numbers : Numbers
no_numbers = record { first = None; last = None }

-- numbers, and one more behind them
abbrev pub first_with : Option Told → Told → Option Told
first_with None next = Some next
first_with (Some first) next = Some first

abbrev pub with_next : Numbers → Told → Numbers
with_next numbers next = record { first = first_with numbers.first next; last = Some next }

-- the text behind this byte
abbrev pub behind_byte : ℕ → List ℕ → Option (List ℕ)
behind_byte byte [] = None
behind_byte byte (first ∷ rest) = if first == byte then Some rest else None

-- the number for which a mark stands, in its one spelling, and the text behind it
abbrev pub behind_number : Mark → List ℕ → Option (Told × List ℕ)
behind_number mark text = do
  number ← number_of (take (word_length text) text)
  if nat_le (low_of mark) number && nat_lt number (end_of mark)
      then Some (record { mark = mark; number = number }, drop (word_length text) text)
      else None

-- what follows a byte of a row: the same byte, or the number for which it stands
abbrev pub behind_marked : ℕ → Option Mark → List ℕ → Numbers → Option (Numbers × List ℕ)
behind_marked byte None text numbers = do
  rest ← behind_byte byte text
  Some (numbers, rest)
behind_marked byte (Some mark) text numbers = do
  read ← behind_number mark text
  Some (with_next numbers read.0, read.1)

abbrev pub behind_one : ℕ → List ℕ → Numbers → Option (Numbers × List ℕ)
behind_one byte text numbers = behind_marked byte (mark_of byte) text numbers

-- how a text begins as the rest of a row says, with the numbers before it; the byte 124 is `|`
abbrev pub begin_by : List ℕ → List ℕ → Numbers → Option Begun
begin_by [] text numbers = None
begin_by (byte ∷ row) text numbers =
    if byte == 124 then Some (record { numbers = numbers; words = row; rest = text })
    else (do
      read ← behind_one byte text numbers
      begin_by row read.1 read.0)

abbrev pub begin : List ℕ → List ℕ → Option Begun
begin row text = begin_by row text no_numbers
