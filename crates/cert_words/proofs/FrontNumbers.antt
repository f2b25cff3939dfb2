-- The digits at the front of a text, and the word that they are.
use Rattle.std.proofs.Common.{◌≡◌, ℕ, zero, suc, ◌+◌, ◌*◌, ◌-◌, ◌^◌, ◌<◌, ◌≤◌, ◌==◌, ◌&&◌, Bool, true, false, cond, not, inl, inr, List, [], ◌∷◌, length, ◌++◌, take, drop, get_or, decimal, take-append-drop, Option, Some, None, refl, sym, ◌∙◌, ap, subst, arith, true≢false}
use Rattle.std.specs.Prelude.{◌⊎◌, nat_lt, if◌then◌else◌}
use Rattle.std.specs.Char.{is_ascii_digit}
use Rattle.std.specs.List.{list_all, prefix_len}
use Rattle.std.specs.Str.Parse.{digits_value}
use Rattle.std.proofs.lemmas.Grind.{common_steps}
use Rattle.std.proofs.lemmas.Bool.{cases_lt, eqb-true, eqb-false}
use Rattle.std.proofs.lemmas.List.Folds.{list_all_more, list_all_at}
use Rattle.std.proofs.lemmas.Int.Digits.{digits_value_more}
use Rattle.std.proofs.lemmas.Str.{digit_value_digit}
use Rattle.std.proofs.lemmas.Str.Parse.{digits_value_short}
use Rattle.std.proofs.lemmas.List.{length-take, get_or-take}
use Rattle.std.proofs.lemmas.List.Sums.{prefix_len-le-length, prefix_len_is, prefix_len_passes, AllPass-from_list_all, list_all-from_AllPass}
use Rattle.brake_text.specs.Numbers.{is_number, number_of}
use Rattle.brake_text.proofs.Numerals.{digits_model, number-spelled}
use Rattle.cert_words.specs.declared.front_number.Digits.{Digits}
use Rattle.cert_words.specs.FrontNumbers.{AreFrontDigits, digits_in_front, is_spelled, number_upto, number_in_front, leading_number}
use Rattle.cert_words.specs.LineWords.{◌>>=◌, Reads, is_space, word_length}

-- so many bytes are digits of this value
pub record HasRead (text : List ℕ) (index : ℕ) (digits : Digits) : Type 0 where
  pub count : digits.count ≡ index
  pub few : index ≤ 18
  pub all : list_all is_ascii_digit (take index text) ≡ true
  pub value_is : digits.value ≡ digits_value 10 (take index text)

-- fewer than 18 digits were read
pub few_more : (i count : ℕ) → count ≡ i → i ≤ 18 → (count ≡ 18 → ⊥) → i < 18
few_more i count same few not_all = elim (cases_lt i 18) [
  | inl less ↦ less
  | inr more ↦ absurd (not_all (omega (arith, same, few, more)))
]

digit_range : (b : ℕ) → is_ascii_digit b ≡ true → (48 ≤ b) × (b ≤ 57)
digit_range b is = (grind (arith, common_steps), grind (arith, common_steps))

-- the value of so few digits
pub small : (text : List ℕ) (i : ℕ) → list_all is_ascii_digit (take i text) ≡ true → i < 18 → digits_value 10 (take i text) < 10 ^ 17
small text i all few =
    let short : length (take i text) ≤ 17 = rw length-take (omega (arith, few)) in
    digits_value_short digits_model (take i text) 17 all short

-- one digit more
module _ (text : List ℕ) (i : ℕ) (within : i < length text) (is : is_ascii_digit (get_or text i 0) ≡ true) where
  pub digit_high : get_or text i 0 ≤ 57
  digit_high = (digit_range (get_or text i 0) is).1

  pub all_more : list_all is_ascii_digit (take i text) ≡ true → list_all is_ascii_digit (take (i + 1) text) ≡ true
  all_more all = list_all_more is_ascii_digit text i 0 within ∙ (λ k. all k && is k)

  pub value_more : digits_value 10 (take (i + 1) text) ≡ digits_value 10 (take i text) * 10 + (get_or text i 0 - 48)
  value_more = omega (arith, digits_value_more 10 text i within, digit_value_digit (get_or text i 0) (digit_range (get_or text i 0) is))

-- ---- the word that begins with so many digits
no_space : (b : ℕ) → is_ascii_digit b ≡ true → not (is_space b) ≡ true
no_space b is = grind (arith, common_steps)

both : (a b : Bool) → (a && b) ≡ true → (a ≡ true) × (b ≡ true)
both true b e = (refl, e)
both false b e = absurd (cc)

-- it goes on behind them
digits_word : (n : ℕ) (text : List ℕ) → n ≤ length text → list_all is_ascii_digit (take n text) ≡ true → word_length text ≡ n + word_length (drop n text)
digits_word zero text within all = omega arith
digits_word (suc n) [] within all = absurd (omega (arith, within))
digits_word (suc n) (b ∷ text) within all =
    let here = both (is_ascii_digit b) (list_all is_ascii_digit (take n text)) all in
    let first : word_length (b ∷ text) ≡ 1 + word_length text = ap (λ (t : Bool). cond t (1 + word_length text) 0) (no_space b here.0) in
    omega (arith, first, digits_word n text (omega (arith, within)) here.1)

number_if : (t : List ℕ) (n : ℕ) → length t ≡ n → n ≤ 18 → list_all is_ascii_digit t ≡ true → 0 < n → (get_or t 0 0 ≡ 48 → n ≡ 1) → is_number t ≡ true
number_if t n long few all some alone = grind (arith, common_steps)

no_number_if_other : (t : List ℕ) → list_all is_ascii_digit t ≡ false → is_number t ≡ false
no_number_if_other t other = grind (arith, common_steps)

no_number_if_long : (t : List ℕ) → 18 < length t → is_number t ≡ false
no_number_if_long t long = grind (arith, common_steps)

no_number_if_empty : (t : List ℕ) → length t ≡ 0 → is_number t ≡ false
no_number_if_empty t empty = grind (arith, common_steps)

no_number_if_zero : (t : List ℕ) → get_or t 0 0 ≡ 48 → (length t ≡ 1 → ⊥) → is_number t ≡ false
no_number_if_zero t zero_first more = grind (arith, common_steps)

lt_of : (n : ℕ) → nat_lt 0 n ≡ true → 0 < n
lt_of zero e = absurd (cc)
lt_of (suc n) e = omega arith

some_more : (n : ℕ) → nat_lt 0 (suc n) ≡ true
some_more n = grind (arith, common_steps)

zero_first : (n : ℕ) (b : ℕ) (text : List ℕ) → 0 < n → get_or (take n (b ∷ text)) 0 0 ≡ b
zero_first zero b text some = absurd (omega (arith, some))
zero_first (suc n) b text some = refl

-- what isn't spelled as a number is none
not_spelled : (text : List ℕ) (n : ℕ) → n ≤ length text → is_spelled text n ≡ false → is_number (take n text) ≡ false
not_spelled text zero within isnt = no_number_if_empty [] refl
not_spelled [] (suc n) within isnt = absurd (omega (arith, within))
not_spelled (b ∷ text) (suc n) within isnt = by_test (b == 48) refl isnt
  where
    long : length (take (suc n) (b ∷ text)) ≡ suc n
    long = rw length-take (omega (arith, within))

    by_test : (t : Bool) → (b == 48) ≡ t → (if t then suc n == 1 else nat_lt 0 (suc n)) ≡ false → is_number (take (suc n) (b ∷ text)) ≡ false
    by_test true is alone = no_number_if_zero (take (suc n) (b ∷ text)) (eqb-true b 48 is) (λ one. not_one (sym long ∙ one))
      where
        not_one : suc n ≡ 1 → ⊥
        not_one same = eqb-false (suc n) 1 alone same
    by_test false is few = absurd (true≢false (sym (some_more n) ∙ few))

-- what is spelled as one is
spelled : (text : List ℕ) (n : ℕ) → n ≤ length text → n ≤ 18 → list_all is_ascii_digit (take n text) ≡ true → is_spelled text n ≡ true → is_number (take n text) ≡ true
spelled [] zero within few all isnt = absurd (cc)
spelled [] (suc n) within few all is = absurd (omega (arith, within))
spelled (b ∷ text) n within few all is = number_if (take n (b ∷ text)) n (rw length-take (omega (arith, within))) few all (some_digit (b == 48) is) (λ first. alone (b == 48) refl is first)
  where
    some_digit : (t : Bool) → (if t then n == 1 else nat_lt 0 n) ≡ true → 0 < n
    some_digit true e = let one = eqb-true n 1 e in omega (arith, one)
    some_digit false e = lt_of n e

    alone : (t : Bool) → (b == 48) ≡ t → (if t then n == 1 else nat_lt 0 n) ≡ true → get_or (take n (b ∷ text)) 0 0 ≡ 48 → n ≡ 1
    alone true at e first = eqb-true n 1 e
    alone false at e first = absurd (eqb-false b 48 at (sym (zero_first n b text (lt_of n e)) ∙ first))

-- ---- the number with which a text begins
module _ (text : List ℕ) (d : Digits) (are : AreFrontDigits text d) where
  goes_on : word_length text ≡ d.count + word_length (drop d.count text)
  goes_on = digits_word d.count text are.within are.all

  abbrev with_rest : ℕ → Option ℕ → Option (ℕ × List ℕ)
  with_rest n told = told >>= λ v. Some (v, drop n text)

  none_from : (n : ℕ) → is_number (take n text) ≡ false → number_upto n text ≡ None
  unfolding number_of
  none_from n isnt = ap (λ (b : Bool). with_rest n (if b then Some (digits_value 10 (take n text)) else None)) isnt

  some_from : (n : ℕ) → is_number (take n text) ≡ true → number_upto n text ≡ Some (digits_value 10 (take n text), drop n text)
  unfolding number_of
  some_from n is = ap (λ (b : Bool). with_rest n (if b then Some (digits_value 10 (take n text)) else None)) is

  pub number_there : is_spelled text d.count ≡ true → word_length (drop d.count text) ≡ 0 → number_in_front text ≡ Some (d.value, drop d.count text)
  number_there is ends =
      let whole : word_length text ≡ d.count = omega (arith, goes_on, ends) in
      ap (λ (n : ℕ). number_upto n text) whole ∙ some_from d.count (spelled text d.count are.within are.few are.all is)
      ∙ ap (λ (v : ℕ). Some (v, drop d.count text)) (sym are.value_is)

  -- a word that ends with the digits, but isn't spelled as a number
  none_spelled : is_spelled text d.count ≡ false → word_length (drop d.count text) ≡ 0 → number_in_front text ≡ None
  none_spelled isnt ends =
      let whole : word_length text ≡ d.count = omega (arith, goes_on, ends) in
      ap (λ (n : ℕ). number_upto n text) whole ∙ none_from d.count (not_spelled text d.count are.within isnt)

  -- a word that goes on behind them
  none_longer : 0 < word_length (drop d.count text) → number_in_front text ≡ None
  none_longer more = none_from (word_length text) (elim (cases_lt d.count 18) [
    | inl few ↦
        let within = word_within in
        let inside : d.count < length text = omega (arith, goes_on, more, within) in
        let here : d.count < word_length text = omega (arith, goes_on, more) in
        let long : length (take (word_length text) text) ≡ word_length text = rw length-take (omega (arith, within)) in
        let other : is_ascii_digit (get_or (take (word_length text) text) d.count 0) ≡ false = ap is_ascii_digit (get_or-take (word_length text) text d.count 0 here) ∙ are.last few inside in
        no_number_if_other (take (word_length text) text) (list_all_at is_ascii_digit (take (word_length text) text) d.count 0 (omega (arith, long, here)) other)
    | inr many ↦
        let within = word_within in
        let long : length (take (word_length text) text) ≡ word_length text = rw length-take (omega (arith, within)) in
        no_number_if_long (take (word_length text) text) (omega (arith, long, many, goes_on, more))
  ])
    where
      word_within : word_length text ≤ length text
      word_within = prefix_len-le-length (λ byte. not (is_space byte)) text

  pub none_there : (is_spelled text d.count ≡ false) ⊎ ((word_length (drop d.count text) == 0) ≡ false) → number_in_front text ≡ None
  none_there (inl isnt) = elim (cases_lt 0 (word_length (drop d.count text))) [
    | inl more ↦ none_longer more
    | inr none ↦ none_spelled isnt (omega (arith, none))
  ]
  none_there (inr more) = elim (cases_lt 0 (word_length (drop d.count text))) [
    | inl longer ↦ none_longer longer
    | inr none ↦ absurd (eqb-false (word_length (drop d.count text)) 0 more (omega (arith, none)))
  ]

-- ---- the number whose digits stand at the front
few_in_front : (text : List ℕ) → (digits_in_front text ≤ length text) × (digits_in_front text ≤ 18)
few_in_front text =
    let short = prefix_len-le-length is_ascii_digit (take 18 text) in
    let long = length-take 18 text in
    (omega (arith, short, long), omega (arith, short, long))

all_in_front : (text : List ℕ) → list_all is_ascii_digit (take (digits_in_front text) text) ≡ true
all_in_front text = list_all-from_AllPass is_ascii_digit (take (digits_in_front text) text) (λ i d within.
    let few = few_in_front text in
    let here : i < digits_in_front text = omega (arith, within, few.0, length-take (digits_in_front text) text) in
    ap is_ascii_digit (get_or-take (digits_in_front text) text i d here ∙ sym (get_or-take 18 text i d (omega (arith, here, few.1))))
    ∙ prefix_len_passes is_ascii_digit (take 18 text) i d here)

module _ (text : List ℕ) (d : Digits) (are : AreFrontDigits text d) where
  count_is : digits_in_front text ≡ d.count
  count_is = prefix_len_is is_ascii_digit (take 18 text) d.count 0 (omega (arith, are.within, are.few, length-take 18 text)) passes stops
    where
      passes : (k : ℕ) → k < d.count → is_ascii_digit (get_or (take 18 text) k 0) ≡ true
      passes k less =
          ap is_ascii_digit (get_or-take 18 text k 0 (omega (arith, less, are.few)) ∙ sym (get_or-take d.count text k 0 less))
          ∙ AllPass-from_list_all is_ascii_digit (take d.count text) are.all k 0 (omega (arith, less, are.within, length-take d.count text))

      stops : d.count < length (take 18 text) → is_ascii_digit (get_or (take 18 text) d.count 0) ≡ false
      stops inside =
          let few : d.count < 18 = omega (arith, inside, length-take 18 text) in
          ap is_ascii_digit (get_or-take 18 text d.count 0 few) ∙ are.last few (omega (arith, inside, length-take 18 text))

  abbrev told : ℕ → Bool → Option (ℕ × List ℕ)
  told n is = if is then Some (digits_value 10 (take n text), drop n text) else None

  pub leading_there : is_spelled text d.count ≡ true → leading_number text ≡ Some (d.value, drop d.count text)
  leading_there is = ap (λ n. told n (is_spelled text n)) count_is ∙ ap (told d.count) is ∙ ap (λ v. Some (v, drop d.count text)) (sym are.value_is)

  pub no_leading : is_spelled text d.count ≡ false → leading_number text ≡ None
  no_leading isnt = ap (λ n. told n (is_spelled text n)) count_is ∙ ap (told d.count) isnt

-- it is spelled by them
pub leading_spelled : (text : List ℕ) (n : ℕ) (rest : List ℕ) → leading_number text ≡ Some (n, rest) → (n < 10 ^ 18) × (text ≡ decimal n ++ rest)
leading_spelled text n rest read = by_test (is_spelled text count) refl read
  where
    count : ℕ
    count = digits_in_front text

    parts : (a b : ℕ) (t u : List ℕ) → ◌≡◌ {A = Option (ℕ × List ℕ)} (Some (a, t)) (Some (b, u)) → (a ≡ b) × (t ≡ u)
    parts a b t u same =
        let first : a ≡ b = ap (λ (o : Option (ℕ × List ℕ)). elim o [ Some x ↦ x.0 | None ↦ 0 ]) same in
        let second : t ≡ u = ap (λ (o : Option (ℕ × List ℕ)). elim o [ Some x ↦ x.1 | None ↦ [] ]) same in
        (first, second)

    by_spelling : Bool → Option (ℕ × List ℕ)
    by_spelling b = if b then Some (digits_value 10 (take count text), drop count text) else None

    by_test : (b : Bool) → is_spelled text count ≡ b → by_spelling b ≡ Some (n, rest) → (n < 10 ^ 18) × (text ≡ decimal n ++ rest)
    by_test false isnt same = absurd (let c = same in cc)
    by_test true is same =
        let few = few_in_front text in
        let number = number-spelled (take count text) (spelled text count few.0 few.1 (all_in_front text) is) in
        let value = (parts (digits_value 10 (take count text)) n (drop count text) rest same).0 in
        let behind = (parts (digits_value 10 (take count text)) n (drop count text) rest same).1 in (
          subst (λ v. v < 10 ^ 18) value number.0,
          sym (take-append-drop count text) ∙ ap (λ t. t ++ drop count text) number.1 ∙ ap (λ v. decimal v ++ drop count text) value ∙ ap (λ t. decimal n ++ t) behind,
        )
