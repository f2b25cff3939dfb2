-- How long the decimals of lengths are.
use Rattle.std.proofs.Common.{ℕ, zero, suc, ◌+◌, ◌/◌, ◌%◌, ◌^◌, ◌==◌, ◌≤◌, ℤ, pos, Bool, true, false, cond, List, [], ◌∷◌, ◌++◌, length, unsigned_abs, arith}
use Rattle.std.specs.Prelude.{codes, decimal, int_lt}
use Rattle.std.proofs.lemmas.List.{length-append}
use Rattle.std.proofs.lemmas.Fmt.{length-decimal-le}
use Rattle.svg_text.specs.Decimals.{sign_text, digits_text, fraction_text, decimal_text}

sign_short : (v : ℤ) → length (sign_text v) ≤ 1
sign_short v = by (int_lt v (pos 0))
  where
    by : (t : Bool) → length (cond t (codes "-") []) ≤ 1
    by true = omega arith
    by false = omega arith

digits_short : (places rest : ℕ) → length (digits_text places rest) ≤ places
unfolding digits_text
digits_short zero rest = omega arith
digits_short (suc places) rest = by (rest == 0) (digits_text places (rest % 10 ^ places)) (digits_short places (rest % 10 ^ places))
  where
    by : (t : Bool) (digits : List ℕ) → length digits ≤ places → length (cond t [] ((48 + rest / 10 ^ places) ∷ digits)) ≤ suc places
    by true digits short = omega arith
    by false digits short = omega (arith, short)

fraction_short : (places rest : ℕ) → length (fraction_text places rest) ≤ places + 1
unfolding fraction_text
fraction_short places rest = by (rest == 0) (digits_text places rest) (digits_short places rest)
  where
    by : (t : Bool) (digits : List ℕ) → length digits ≤ places → length (cond t [] (codes "." ++ digits)) ≤ places + 1
    by true digits short = omega arith
    by false digits short = omega (arith, short)

joined_short : (sign whole fraction : List ℕ) → length sign ≤ 1 → length whole ≤ 20 → length fraction ≤ 4 → length (sign ++ whole ++ fraction) ≤ 2 ^ 10
joined_short sign whole fraction a b c =
    omega (arith, length-append (sign ++ whole) fraction, length-append sign whole, a, b, c)

-- a length of a job is short in millimetres
pub length_short : (v : ℤ) → unsigned_abs v ≤ 2 ^ 40 → length (decimal_text 3 v) ≤ 2 ^ 10
unfolding decimal_text
length_short v small =
    let whole = length-decimal-le 20 (unsigned_abs v / 10 ^ 3) (omega arith) (omega (arith, small)) (omega (arith, small)) in
    joined_short (sign_text v) (decimal (unsigned_abs v / 10 ^ 3)) (fraction_text 3 (unsigned_abs v % 10 ^ 3)) (sign_short v) whole (fraction_short 3 (unsigned_abs v % 10 ^ 3))
