-- The digits of a cost, put from the last one on.
use Rattle.std.proofs.Common.{◌≡◌, ℕ, zero, suc, ◌+◌, ◌-◌, ◌*◌, ◌/◌, ◌%◌, ◌^◌, ◌<◌, ◌≤◌, List, [], ◌∷◌, ◌++◌, length, set, take, drop, ap, sym, ◌∙◌, subst, append_assoc, arith}
use native.Mathlib.Numerals.{unary_clauses}
use Rattle.std.specs.Fmt.{decimal}
use Rattle.std.proofs.lemmas.Fmt.{decimal_digit, decimal_step}
use Rattle.std.proofs.lemmas.List.{drop-set, take_at, length-append, length-drop, length-set}

-- a number of some digits, but not of one, has one digit less without its last
fewer_digits : (k n : ℕ) → 10 ≤ n → n < 10 ^ k → (1 ≤ k) × (n / 10 < 10 ^ (k - 1))
fewer_digits zero n two small = absurd (omega (arith, two, small))
fewer_digits (suc k) n two small = (omega arith, subst (λ (j : ℕ). n / 10 < 10 ^ j) same (below (10 ^ k) n (simp unary_clauses at small)))
  where
    same : k ≡ suc k - 1
    same = omega arith

    below : (p n : ℕ) → n < p * 10 → n / 10 < p
    below p n h = omega (arith, h)

-- the rest of a cost's digits and the bytes from a place on are the cost's digits and a tail, and
-- there is room for the rest before that place
pub record AreDigits (cost rest at : ℕ) (bytes tail : List ℕ) : Type 0 where
  pub long : length bytes ≡ 32
  pub told : decimal rest ++ drop at bytes ≡ decimal cost ++ tail
  pub below : at ≤ 15
  pub above : 5 ≤ at
  pub few : rest < 10 ^ (at - 5)

pub has_room : (cost rest at : ℕ) (bytes tail : List ℕ) → 10 ≤ rest → AreDigits cost rest at bytes tail → 6 ≤ at
has_room cost rest at bytes tail two are = let less = fewer_digits (at - 5) rest two are.few in let one = less.0 in omega (arith, one)

pub digit_more : (cost rest at place digit : ℕ) (bytes tail : List ℕ) → rest < 2 ^ 64 → 10 ≤ rest → place ≡ at - 1 → digit ≡ 48 + rest % 10 → AreDigits cost rest at bytes tail
    → AreDigits cost (rest / 10) (at - 1) (set bytes place digit) tail
digit_more cost rest at place digit bytes tail fits two here is are =
    let long : length bytes ≡ 32 = are.long in
    let below : at ≤ 15 = are.below in
    let room : 6 ≤ at = has_room cost rest at bytes tail two are in
    let back : at - 1 + 1 ≡ at = omega (arith, room) in
    let one_less : at - 5 - 1 ≡ at - 1 - 5 = omega arith in
    let less = fewer_digits (at - 5) rest two are.few in
    rw (here, is) (record {
      long = length-set bytes (at - 1) (48 + rest % 10) ∙ long;
      told =
          ap (λ (t : List ℕ). decimal (rest / 10) ++ t) (drop-set bytes (at - 1) (48 + rest % 10) (omega (arith, long, below, room)) ∙ ap (λ (k : ℕ). (48 + rest % 10) ∷ drop k bytes) back)
          ∙ sym (append_assoc (decimal (rest / 10)) ((48 + rest % 10) ∷ []) (drop at bytes))
          ∙ ap (λ (t : List ℕ). t ++ drop at bytes) (sym (decimal_step rest two fits)) ∙ are.told;
      below = omega (arith, below);
      above = omega (arith, room);
      few = subst (λ (k : ℕ). rest / 10 < 10 ^ k) one_less less.1;
    })

-- a digit and a space before the bytes from a place on
ends : (at digit : ℕ) (bytes : List ℕ) → length bytes ≡ 32 → 5 ≤ at → at ≤ 15 → drop (at - 2) (set (set bytes (at - 1) digit) (at - 2) 32) ≡ 32 ∷ digit ∷ drop at bytes
ends at digit bytes long above below =
    let count : length (set bytes (at - 1) digit) ≡ 32 = length-set bytes (at - 1) digit ∙ long in
    let last : at - 2 + 1 ≡ at - 1 = omega (arith, above) in
    let back : at - 1 + 1 ≡ at = omega (arith, above) in
    drop-set (set bytes (at - 1) digit) (at - 2) 32 (omega (arith, count, below))
    ∙ ap (λ (k : ℕ). 32 ∷ drop k (set bytes (at - 1) digit)) last
    ∙ ap (λ (t : List ℕ). 32 ∷ t) (drop-set bytes (at - 1) digit (omega (arith, long, below)) ∙ ap (λ (k : ℕ). digit ∷ drop k bytes) back)

-- all digits are put, and the space before them
pub cost_ends : (cost rest at last before digit start len : ℕ) (bytes pad : List ℕ) → length pad ≡ 16 → rest < 10 → last ≡ at - 1 → before ≡ at - 2 → digit ≡ 48 + rest → start ≡ at - 2 → len ≡ 18 - at
    → AreDigits cost rest at bytes (10 ∷ pad) → take len (drop start (set (set bytes last digit) before 32)) ≡ 32 ∷ (decimal cost ++ (10 ∷ []))
cost_ends cost rest at last before digit start len bytes pad padded one last_is before_is digit_is start_is len_is are =
    let long : length bytes ≡ 32 = are.long in
    let below : at ≤ 15 = are.below in
    let above : 5 ≤ at = are.above in
    let whole : (48 + rest) ∷ drop at bytes ≡ decimal cost ++ (10 ∷ pad) = ap (λ (t : List ℕ). t ++ drop at bytes) (sym (decimal_digit rest one)) ∙ are.told in
    let count : suc (length (drop at bytes)) ≡ length (decimal cost ++ (10 ∷ pad)) = ap (λ (t : List ℕ). length t) whole in
    let sum = length-append (decimal cost) (10 ∷ pad) in
    let left = length-drop at bytes in
    let short = length-append (decimal cost) (10 ∷ []) in
    let cut : length (32 ∷ (decimal cost ++ (10 ∷ []))) ≡ 18 - at = omega (arith, count, sum, left, short, long, padded, below) in
    rw (last_is, before_is, digit_is, start_is, len_is)
    (ap (λ (t : List ℕ). take (18 - at) t)
    (ends at (48 + rest) bytes long above below ∙ ap (λ (t : List ℕ). 32 ∷ t) (whole ∙ sym (append_assoc (decimal cost) (10 ∷ []) pad)))
    ∙ take_at (32 ∷ (decimal cost ++ (10 ∷ []))) pad (18 - at) cut)
