-- Decimal digits, their value, and the number that they are the spelling of.
use Rattle.std.proofs.Common.{◌≡◌, ℕ, ◌+◌, ◌*◌, ◌-◌, ◌^◌, ◌<◌, ◌≤◌, true, List, [], ◌∷◌, length, take, get_or, sym, arith, decimal}
use Rattle.std.proofs.lemmas.Bool.{false≢true}
use Rattle.std.proofs.lemmas.Grind.{common_steps}
use Rattle.std.specs.Char.{is_ascii_digit}
use Rattle.std.specs.List.{list_all}
use Rattle.std.specs.Str.Parse.{digits_value}
use Rattle.std.proofs.lemmas.Str.{digit_value_digit}
use Rattle.std.proofs.lemmas.Str.Parse.{IsNumeralModel, numerals_by_value, tells_all_ascii_digits, digits_value_short, digits_value-take-le, digit_at}
use Rattle.std.proofs.lemmas.Int.Digits.{digits_value_more}
use Rattle.std.proofs.lemmas.Fmt.{decimal-digits_value}
use Rattle.brake_text.specs.Numbers.{is_number}

-- std's words for digits and their value fit a list of which each byte passes the test
pub digits_model : IsNumeralModel (λ ds. list_all is_ascii_digit ds ≡ true) (digits_value 10)
digits_model = numerals_by_value _ tells_all_ascii_digits

-- a front of 18 digits at the most is below 10 ^ 18
pub front-small : (ds : List ℕ) (i : ℕ) → list_all is_ascii_digit ds ≡ true → length ds ≤ 18 → digits_value 10 (take i ds) < 10 ^ 18
front-small ds i all short = omega (arith, digits_value-take-le 10 ds i (omega arith), digits_value_short digits_model ds 18 all short)

-- the value of one more digit
pub front_more : (ds : List ℕ) (i : ℕ) → list_all is_ascii_digit ds ≡ true → i < length ds → digits_value 10 (take (i + 1) ds) ≡ digits_value 10 (take i ds) * 10 + (get_or ds i 0 - 48)
front_more ds i all within =
    let digit = digit_at ds i (digits_model.to ds all) within in
    omega (arith, digits_value_more 10 ds i within, digit_value_digit (get_or ds i 0) digit)

pub digit-small : (ds : List ℕ) (i : ℕ) → list_all is_ascii_digit ds ≡ true → i < length ds → get_or ds i 0 ≤ 57
digit-small ds i all within = (digit_at ds i (digits_model.to ds all) within).1

-- a number's text is the decimal of its value
pub number-spelled : (text : List ℕ) → is_number text ≡ true → (digits_value 10 text < 10 ^ 18) × (text ≡ decimal (digits_value 10 text))
number-spelled [] e = absurd (false≢true e)
number-spelled (c ∷ cs) e =
    let all : list_all is_ascii_digit (c ∷ cs) ≡ true = grind (arith, common_steps) in
    let short : length (c ∷ cs) ≤ 18 = grind (arith, common_steps) in
    let lead : c ≡ 48 → length (c ∷ cs) ≡ 1 = λ first. grind (arith, common_steps) in
    let small = digits_value_short digits_model (c ∷ cs) 18 all short in
    (small, sym (decimal-digits_value digits_model (c ∷ cs) all (omega arith) lead (omega (arith, small))))
