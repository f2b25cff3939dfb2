-- The number with which a text begins.
use Rattle.std.specs.Prelude.{◌≡◌, ℕ, ◌==◌, ◌<◌, ◌≤◌, Bool, true, false, List, [], ◌∷◌, length}
use Rattle.std.specs.Prelude.{take, drop, slice_index, nat_lt, Option, Some, None, if◌then◌else◌}
use Rattle.std.specs.Char.{is_ascii_digit}
use Rattle.std.specs.List.{list_all, prefix_len}
use Rattle.std.specs.Str.Parse.{digits_value}
use Rattle.brake_text.specs.Numbers.{number_of}
use Rattle.cert_words.specs.declared.front_number.Digits.{Digits}
use Rattle.cert_words.specs.LineWords.{◌>>=◌, word_length}

-- the first so many bytes of a text are digits of this value; behind them stands none more, or they
-- are 18
pub record AreFrontDigits (text : List ℕ) (digits : Digits) : Type 0 where
  pub within : digits.count ≤ length text
  pub few : digits.count ≤ 18
  pub all : list_all is_ascii_digit (take digits.count text) ≡ true
  pub value_is : digits.value ≡ digits_value 10 (take digits.count text)
  pub last : digits.count < 18 → digits.count < length text
      → is_ascii_digit (slice_index text digits.count) ≡ false

-- how many digits stand at the front, of which no more than 18 are looked at
abbrev pub digits_in_front : List ℕ → ℕ
digits_in_front text = prefix_len is_ascii_digit (take 18 text)

-- so many digits at the front are the one spelling of a number: there are some, and 0 stands alone
abbrev pub is_spelled : List ℕ → ℕ → Bool
is_spelled [] count = nat_lt 0 count
is_spelled (byte ∷ text) count = if byte == 48 then count == 1 else nat_lt 0 count

-- the number that the first so many bytes are, and the text behind them
abbrev pub number_upto : ℕ → List ℕ → Option (ℕ × List ℕ)
number_upto count text = number_of (take count text) >>= λ n. Some (n, drop count text)

-- the number that the bytes up to the first space are, and the text behind them
abbrev pub number_in_front : List ℕ → Option (ℕ × List ℕ)
number_in_front text = number_upto (word_length text) text

-- the number whose digits stand at the front, and the text behind them
abbrev pub leading_number : List ℕ → Option (ℕ × List ℕ)
leading_number text = let count = digits_in_front text in if is_spelled text count
    then Some (digits_value 10 (take count text), drop count text)
    else None
