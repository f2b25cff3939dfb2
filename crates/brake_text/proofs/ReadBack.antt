-- The decimal of a number is read as this number: what `put_number` writes, `signed` reads.
use Rattle.std.proofs.Common.{◌≡◌, ℕ, zero, suc, ◌^◌, ◌<◌, ◌≤◌, ◌==◌, true, false, List, length, get_or, ℤ, pos, negsuc, Some, ap, refl, decimal, arith}
use Rattle.std.specs.Prelude.{unsigned_abs, slice_index}
use Rattle.std.specs.Fmt.{signed_decimal}
use Rattle.std.specs.Char.{is_ascii_digit}
use Rattle.std.specs.List.{list_all}
use Rattle.std.proofs.lemmas.Grind.{common_steps}
use Rattle.std.proofs.lemmas.Fmt.{decimal_digit, decimal_is_IsNumeral, decimal_nonempty, length-decimal-le, first_decimal, digits_decimal, digits_value-decimal}
use Rattle.std.proofs.lemmas.Str.Parse.{digit_at}
use Rattle.brake_text.specs.Numbers.{is_number, number_of, below_zero, signed_of}
use Rattle.brake_text.proofs.Numerals.{digits_model}

-- digits that don't begin with 0
is_number-digits : (text : List ℕ) → 0 < length text → length text ≤ 18 → list_all is_ascii_digit text ≡ true → 48 < get_or text 0 0 → is_number text ≡ true
is_number-digits text some short all first = grind (arith, common_steps)

is_number-decimal : (n : ℕ) → n < 10 ^ 18 → is_number (decimal n) ≡ true
is_number-decimal zero small = rw (decimal_digit 0 (omega arith)) refl
is_number-decimal (suc n) small =
    let fits : suc n < 2 ^ 64 = omega arith in
    is_number-digits (decimal (suc n)) (decimal_nonempty (suc n) fits) (length-decimal-le 18 (suc n) (omega arith) small fits) (digits_decimal digits_model (suc n) fits) (first_decimal (suc n) (omega arith) fits)

no_minus : (text : List ℕ) → 48 ≤ get_or text 0 0 → (slice_index text 0 == 45) ≡ false
no_minus text digit = grind (arith, common_steps)

decimal-no_minus : (n : ℕ) → n < 10 ^ 18 → (slice_index (decimal n) 0 == 45) ≡ false
decimal-no_minus n small =
    let fits : n < 2 ^ 64 = omega arith in
    no_minus (decimal n) (digit_at (decimal n) 0 (decimal_is_IsNumeral n fits).0.1 (decimal_nonempty n fits)).0

pub number_of-decimal : (n : ℕ) → n < 10 ^ 18 → number_of (decimal n) ≡ Some n
unfolding number_of
number_of-decimal n small = rw (is_number-decimal n small) (ap Some (digits_value-decimal digits_model n (omega arith)))

below_zero-suc : (n : ℕ) → below_zero (suc n) ≡ Some (negsuc n)
below_zero-suc n = grind (arith, common_steps)

pub signed_of-decimal : (z : ℤ) → unsigned_abs z < 10 ^ 18 → signed_of (signed_decimal z) ≡ Some z
unfolding signed_of
signed_of-decimal (pos n) small = rw (decimal-no_minus n small, number_of-decimal n small) refl
signed_of-decimal (negsuc n) small = rw (number_of-decimal (suc n) small) (below_zero-suc n)
