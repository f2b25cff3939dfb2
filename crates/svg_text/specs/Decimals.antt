-- Decimals: whole numbers of a small unit, of which 1 and some zeros make the unit that is printed.
use Rattle.std.specs.Prelude.{ℕ, zero, suc, ◌+◌, ◌*◌, ◌/◌, ◌%◌, ◌^◌, ◌==◌, List, [], ◌∷◌, ◌++◌, codes}
use Rattle.std.specs.Prelude.{ℤ, pos, neg_ℤ, int_lt, unsigned_abs, decimal, if◌then◌else◌}
use Rattle.std.specs.Char.{digit_value}

-- the digits behind the point, up to the last that isn't 0
unfoldable pub digits_text : ℕ → ℕ → List ℕ
digits_text zero rest = []
digits_text (suc places) rest =
    if rest == 0 then []
    else (48 + rest / 10 ^ places) ∷ digits_text places (rest % 10 ^ places)

-- the point and the digits behind it, or nothing where they are 0
unfoldable pub fraction_text : ℕ → ℕ → List ℕ
fraction_text places rest = if rest == 0 then [] else codes "." ++ digits_text places rest

-- the sign of a number below 0
abbrev pub sign_text : ℤ → List ℕ
sign_text value = if int_lt value (pos 0) then codes "-" else []

-- a number of units, of which 1 and so many zeros make one that is printed
unfoldable pub decimal_text : ℕ → ℤ → List ℕ
decimal_text places value =
    sign_text value ++ decimal (unsigned_abs value / 10 ^ places)
    ++ fraction_text places (unsigned_abs value % 10 ^ places)

-- how many units the digits behind a point are worth, each a tenth of the one before it
abbrev pub read_digits : ℕ → List ℕ → ℕ
read_digits zero digits = 0
read_digits (suc places) [] = 0
read_digits (suc places) (digit ∷ digits) =
    digit_value digit * 10 ^ places + read_digits places digits

-- how many units a text without a sign is worth, where the digits before it make a number
abbrev pub read_size : ℕ → ℕ → List ℕ → ℕ
read_size places number [] = number * 10 ^ places
read_size places number (byte ∷ text) =
    if byte == 46 then number * 10 ^ places + read_digits places text
    else read_size places (number * 10 + digit_value byte) text

-- how many units a text is worth, as anybody reads a decimal
abbrev pub read_decimal : ℕ → List ℕ → ℤ
read_decimal places [] = pos 0
read_decimal places (byte ∷ text) =
    if byte == 45 then neg_ℤ (pos (read_size places 0 text))
    else pos (read_size places 0 (byte ∷ text))
