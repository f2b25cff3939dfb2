-- Numbers in decimal, with one spelling each.
use Rattle.std.specs.Prelude.{ℕ, ◌==◌, Bool, not, ◌&&◌, ◌||◌, List, length, drop, ℤ, pos, neg_ℤ}
use Rattle.std.specs.Prelude.{Option, Some, None, option_map, option_and_then, nat_lt, nat_le}
use Rattle.std.specs.Prelude.{slice_index, if◌then◌else◌}
use Rattle.std.specs.Char.{is_ascii_digit}
use Rattle.std.specs.List.{list_all}
use Rattle.std.specs.Str.Parse.{digits_value}

-- the text has 1 to 18 digits, of which the first isn't 0 unless it stands alone
abbrev pub is_number : List ℕ → Bool
is_number text =
    nat_lt 0 (length text) && nat_le (length text) 18 && list_all is_ascii_digit text
    && (not (slice_index text 0 == 48) || (length text == 1))

-- the number that the text is
unfoldable pub number_of : List ℕ → Option ℕ
number_of text = if is_number text then Some (digits_value 10 text) else None

-- the number below 0 with this magnitude, where that isn't 0
abbrev pub below_zero : ℕ → Option ℤ
below_zero magnitude = if magnitude == 0 then None else Some (neg_ℤ (pos magnitude))

-- the signed number that the text is: a number, or one other than 0 behind a minus
unfoldable pub signed_of : List ℕ → Option ℤ
signed_of text = if slice_index text 0 == 45
    then option_and_then below_zero (number_of (drop 1 text))
    else option_map pos (number_of text)
