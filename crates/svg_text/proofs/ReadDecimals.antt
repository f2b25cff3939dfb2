-- A decimal is read as the number that it was written for.
use Rattle.std.proofs.Common.{◌≡◌, ℕ, zero, suc, ◌+◌, ◌-◌, ◌*◌, ◌/◌, ◌%◌, ◌^◌, ◌==◌, ◌<◌, ◌≤◌, Bool, true, false, List, [], ◌∷◌, ◌++◌, length, arith, refl, sym, ap, ◌∙◌, ℤ, pos, negsuc, neg_ℤ, decimal}
use Rattle.std.specs.Prelude.{unsigned_abs, int_lt}
use Rattle.std.proofs.lemmas.Grind.{common_steps}
use Rattle.std.proofs.lemmas.Str.{digit_value_digit}
use Rattle.std.proofs.lemmas.Str.Parse.{digit_from_value}
use Rattle.std.proofs.Math.Nat.{pow-suc, div-lt_iff_lt-mul, mod-lt, div-add-mod}
use Rattle.std.specs.Char.{digit_value}
use Rattle.std.specs.Str.Parse.{AllDigits, digits_value_after}
use Rattle.std.proofs.lemmas.Fmt.{decimal_is_IsNumeral}
use Rattle.svg_text.specs.Decimals.{digits_text, fraction_text, decimal_text, read_digits, read_size, read_decimal}

pub power_pos : (places : ℕ) → 0 < 10 ^ places
power_pos zero = omega arith
power_pos (suc places) = rw (pow-suc 10 places) (let h = power_pos places in omega arith)

-- a power of ten is ten at least
ten_at_least : (places : ℕ) → 0 < places → 10 ≤ 10 ^ places
ten_at_least zero some = omega arith
ten_at_least (suc places) some = rw (pow-suc 10 places) (let h = power_pos places in omega arith)

whole_and_rest : (size unit : ℕ) → size / unit * unit + size % unit ≡ size
whole_and_rest size unit = omega (arith, div-add-mod size unit)

-- the first digit of what is left behind the point
first_small : (places rest : ℕ) → rest < 10 ^ suc places → rest / 10 ^ places < 10
first_small places rest small = (div-lt_iff_lt-mul (power_pos places)).1 (let e = pow-suc 10 places in omega arith)

pub digit_small : (places rest : ℕ) → 0 < places → rest < 10 ^ places → rest / 10 ^ (places - 1) < 10
digit_small zero rest some small = omega arith
digit_small (suc places) rest some small =
    let one_less : suc places - 1 ≡ places = omega arith in
    rw one_less (first_small places rest small)

-- what stands before the point fits a signed word
pub whole_small : (places size : ℕ) → 0 < places → size ≤ 2 ^ 63 → size / 10 ^ places < 2 ^ 63
whole_small places size some small = (div-lt_iff_lt-mul (power_pos places)).1 (let ten = ten_at_least places some in omega arith)

digit_of : (n : ℕ) → n < 10 → digit_value (48 + n) ≡ n
digit_of n small = let e = digit_value_digit (48 + n) (omega arith, omega arith) in omega arith

no_point : (d : ℕ) → digit_value d < 10 → (d == 46) ≡ false
no_point d digit = let h = digit_from_value d digit in grind (arith, common_steps)

no_minus : (d : ℕ) → digit_value d < 10 → (d == 45) ≡ false
no_minus d digit = let h = digit_from_value d digit in grind (arith, common_steps)

is_zero : (rest : ℕ) → (rest == 0) ≡ true → rest ≡ 0
is_zero rest is = grind (arith, common_steps)

-- the digits behind the point, from those behind the first
more_digits_read : (places rest : ℕ) (b : Bool) → (rest == 0) ≡ b → rest < 10 ^ suc places → read_digits places (digits_text places (rest % 10 ^ places)) ≡ rest % 10 ^ places → read_digits (suc places) (digits_text (suc places) rest) ≡ rest
unfolding digits_text
more_digits_read places rest true is small inner = rw is (sym (is_zero rest is))
more_digits_read places rest false is small inner = rw (is, digit_of (rest / 10 ^ places) (first_small places rest small), inner) (whole_and_rest rest (10 ^ places))

digits_read : (places rest : ℕ) → rest < 10 ^ places → read_digits places (digits_text places rest) ≡ rest
digits_read zero rest small = omega arith
digits_read (suc places) rest small = more_digits_read places rest (rest == 0) refl small (digits_read places (rest % 10 ^ places) (mod-lt rest (power_pos places)))

fraction_read_by : (places number rest : ℕ) (b : Bool) → (rest == 0) ≡ b → rest < 10 ^ places → read_size places number (fraction_text places rest) ≡ number * 10 ^ places + rest
unfolding fraction_text
fraction_read_by places number rest true is small = rw is (let z = is_zero rest is in omega arith)
fraction_read_by places number rest false is small = rw (is, digits_read places rest small) refl

fraction_read : (places number rest : ℕ) → rest < 10 ^ places → read_size places number (fraction_text places rest) ≡ number * 10 ^ places + rest
fraction_read places number rest small = fraction_read_by places number rest (rest == 0) refl small

-- digits before the point are read one by one
front_read : (places number : ℕ) (ds rest : List ℕ) → AllDigits 10 ds → read_size places number (ds ++ rest) ≡ read_size places (digits_value_after 10 number ds) rest
front_read places number [] rest all = refl
front_read places number (d ∷ ds) rest all = rw (no_point d all.0) (front_read places (number * 10 + digit_value d) ds rest all.1)

size_read : (places size : ℕ) → size / 10 ^ places < 2 ^ 64 → read_size places 0 (decimal (size / 10 ^ places) ++ fraction_text places (size % 10 ^ places)) ≡ size
size_read places size fits =
    let numeral = decimal_is_IsNumeral (size / 10 ^ places) fits in
    front_read places 0 (decimal (size / 10 ^ places)) (fraction_text places (size % 10 ^ places)) numeral.0.1
    ∙ ap (λ n. read_size places n (fraction_text places (size % 10 ^ places))) numeral.1
    ∙ fraction_read places (size / 10 ^ places) (size % 10 ^ places) (mod-lt size (power_pos places))
    ∙ whole_and_rest size (10 ^ places)

-- a text that begins with a digit has no sign
unsigned_read : (places : ℕ) (ds rest : List ℕ) → 0 < length ds → AllDigits 10 ds → read_decimal places (ds ++ rest) ≡ pos (read_size places 0 (ds ++ rest))
unsigned_read places [] rest some all = absurd (let h : 0 < 0 = some in omega arith)
unsigned_read places (d ∷ ds) rest some all = rw (no_minus d all.0) refl

not_below : (n : ℕ) → int_lt (pos n) (pos 0) ≡ false
not_below n = grind (arith, common_steps)

decimal_text-pos : (places n : ℕ) → decimal_text places (pos n) ≡ decimal (n / 10 ^ places) ++ fraction_text places (n % 10 ^ places)
unfolding decimal_text
decimal_text-pos places n = rw (not_below n) refl

pub decimal_read : (places : ℕ) (value : ℤ) → 0 < places → unsigned_abs value ≤ 2 ^ 63 → read_decimal places (decimal_text places value) ≡ value
unfolding decimal_text
decimal_read places (pos n) some small =
    let fits : n / 10 ^ places < 2 ^ 64 = omega (arith, whole_small places n some small) in
    let numeral = decimal_is_IsNumeral (n / 10 ^ places) fits in
    ap (read_decimal places) (decimal_text-pos places n)
    ∙ unsigned_read places (decimal (n / 10 ^ places)) (fraction_text places (n % 10 ^ places)) numeral.0.0 numeral.0.1
    ∙ ap pos (size_read places n fits)
decimal_read places (negsuc n) some small =
    let fits : suc n / 10 ^ places < 2 ^ 64 = omega (arith, whole_small places (suc n) some small) in
    ap (λ m. neg_ℤ (pos m)) (size_read places (suc n) fits)
