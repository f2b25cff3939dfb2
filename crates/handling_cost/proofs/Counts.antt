-- How many numbers of a range pass a test, and the greatest value over them.
use Rattle.std.proofs.Common.{◌≡◌, inl, inr, ℕ, zero, suc, ◌+◌, ◌*◌, ◌<◌, ◌≤◌, Bool, true, false, cond, List, [], ◌∷◌, length, map, filter, arith, refl}
use Rattle.std.specs.Prelude.{max}
use Rattle.std.specs.List.{range_with_len, list_all}
use Rattle.std.proofs.lemmas.Bool.{cases_lt, and_parts, and_from}
use Rattle.std.proofs.lemmas.Bool.Decides.{eqb_tells}
use Rattle.handling_cost.specs.Bound.{greatest}

kept : (s t : Bool) (a : ℕ) (xs ys : List ℕ) → (s ≡ true → t ≡ true) → length xs ≤ length ys → length (cond s (a ∷ xs) xs) ≤ length (cond t (a ∷ ys) ys)
kept true true a xs ys keeps less = omega arith
kept true false a xs ys keeps less = let no = keeps refl in absurd cc
kept false true a xs ys keeps less = omega arith
kept false false a xs ys keeps less = omega arith

one_longer : (s t : Bool) (a : ℕ) (xs ys : List ℕ) → length xs ≤ length ys → length (cond s (a ∷ xs) xs) ≤ 1 + length (cond t (a ∷ ys) ys)
one_longer true true a xs ys less = omega arith
one_longer true false a xs ys less = omega arith
one_longer false true a xs ys less = omega arith
one_longer false false a xs ys less = omega arith

kept_below : (s t : Bool) (a : ℕ) (xs ys : List ℕ) → (s ≡ true → t ≡ true) → length xs < length ys → length (cond s (a ∷ xs) xs) < length (cond t (a ∷ ys) ys)
kept_below true true a xs ys keeps less = omega arith
kept_below true false a xs ys keeps less = let no = keeps refl in absurd cc
kept_below false true a xs ys keeps less = omega arith
kept_below false false a xs ys keeps less = omega arith

kept_plus : (s t : Bool) (a : ℕ) (xs ys : List ℕ) → (s ≡ true → t ≡ true) → length xs ≤ 1 + length ys → length (cond s (a ∷ xs) xs) ≤ 1 + length (cond t (a ∷ ys) ys)
kept_plus true true a xs ys keeps less = omega arith
kept_plus true false a xs ys keeps less = let no = keeps refl in absurd cc
kept_plus false true a xs ys keeps less = omega arith
kept_plus false false a xs ys keeps less = omega arith

-- how many numbers from a on, n in all, pass the test
abbrev pub passing : (ℕ → Bool) → ℕ → ℕ → ℕ
passing p a n = length (filter p (range_with_len a n))

module _ (p q : ℕ → Bool) where
  -- each number that passes p passes q
  pub no_more : (a n : ℕ) → ((c : ℕ) → a ≤ c → c < a + n → p c ≡ true → q c ≡ true) → passing p a n ≤ passing q a n
  no_more a zero keeps = omega arith
  no_more a (suc n) keeps =
      kept (p a) (q a) a (filter p (range_with_len (a + 1) n)) (filter q (range_with_len (a + 1) n)) (keeps a (omega arith) (omega arith))
      (no_more (a + 1) n (λ c low high. keeps c (omega arith) (omega arith)))

  -- each number but b that passes p passes q
  pub one_more : (a n b : ℕ) → ((c : ℕ) → a ≤ c → c < a + n → (c ≡ b → ⊥) → p c ≡ true → q c ≡ true) → passing p a n ≤ 1 + passing q a n
  one_more a zero b keeps = omega arith
  one_more a (suc n) b keeps = elim (eqb_tells a b) [
    | inl here ↦ one_longer (p a) (q a) a (filter p (range_with_len (a + 1) n)) (filter q (range_with_len (a + 1) n))
        (no_more (a + 1) n (λ c low high. keeps c (omega arith) (omega arith) (λ same. let e = here.1 in omega (arith, same, e, low))))
    | inr other ↦ kept_plus (p a) (q a) a (filter p (range_with_len (a + 1) n)) (filter q (range_with_len (a + 1) n)) (keeps a (omega arith) (omega arith) (λ same. other.1 same))
        (one_more (a + 1) n b (λ c low high. keeps c (omega arith) (omega arith)))
  ]

  -- each number that passes p passes q, and b passes q alone
  pub fewer : (a n b : ℕ) → ((c : ℕ) → a ≤ c → c < a + n → p c ≡ true → q c ≡ true) → a ≤ b → b < a + n → p b ≡ false → q b ≡ true → passing p a n < passing q a n
  fewer a zero b keeps first last fails passes = absurd (omega arith)
  fewer a (suc n) b keeps first last fails passes = elim (eqb_tells a b) [
    | inl here ↦
        let rest = no_more (a + 1) n (λ c low high. keeps c (omega arith) (omega arith)) in
        rw (here.1, fails, passes) (let same = rw here.1 at rest in omega (arith, same))
    | inr other ↦ kept_below (p a) (q a) a (filter p (range_with_len (a + 1) n)) (filter q (range_with_len (a + 1) n)) (keeps a (omega arith) (omega arith))
        (fewer (a + 1) n b (λ c low high. keeps c (omega arith) (omega arith)) (let no = other.1 in omega (arith, no)) (omega arith) fails passes)
  ]

  -- tests that agree on the numbers
  pub filter_same : (a n : ℕ) → ((c : ℕ) → a ≤ c → c < a + n → p c ≡ q c) → filter p (range_with_len a n) ≡ filter q (range_with_len a n)
  filter_same a zero same = refl
  filter_same a (suc n) same = λ i. cond (same a (omega arith) (omega arith) i)
      (a ∷ filter_same (a + 1) n (λ c low high. same c (omega arith) (omega arith)) i) (filter_same (a + 1) n (λ c low high. same c (omega arith) (omega arith)) i)

module _ (p : ℕ → Bool) where
  pub none_pass : (a n : ℕ) → ((c : ℕ) → a ≤ c → c < a + n → p c ≡ false) → filter p (range_with_len a n) ≡ []
  none_pass a zero fails = refl
  none_pass a (suc n) fails = rw (fails a (omega arith) (omega arith)) (none_pass (a + 1) n (λ c low high. fails c (omega arith) (omega arith)))

  -- no more of them than there are numbers
  pub at_most_all : (a n : ℕ) → passing p a n ≤ n
  at_most_all a zero = omega arith
  at_most_all a (suc n) = at_most_one (p a) a (filter p (range_with_len (a + 1) n)) n (at_most_all (a + 1) n)
    where
      at_most_one : (t : Bool) (x : ℕ) (xs : List ℕ) (m : ℕ) → length xs ≤ m → length (cond t (x ∷ xs) xs) ≤ suc m
      at_most_one true x xs m less = omega arith
      at_most_one false x xs m less = omega arith

  pub all_of_range : (a n : ℕ) → list_all p (range_with_len a n) ≡ true → (c : ℕ) → a ≤ c → c < a + n → p c ≡ true
  all_of_range a zero all c low high = absurd (omega arith)
  all_of_range a (suc n) all c low high =
      let parts = and_parts (p a) (list_all p (range_with_len (a + 1) n)) all in
      elim (eqb_tells c a) [
        | inl here ↦ rw here.1 parts.0
        | inr other ↦ all_of_range (a + 1) n parts.1 c (let no = other.1 in omega (arith, no)) (omega arith)
      ]

  pub range_from_all : (a n : ℕ) → ((c : ℕ) → a ≤ c → c < a + n → p c ≡ true) → list_all p (range_with_len a n) ≡ true
  range_from_all a zero each = refl
  range_from_all a (suc n) each =
      and_from (p a) (list_all p (range_with_len (a + 1) n)) (each a (omega arith) (omega arith)) (range_from_all (a + 1) n (λ c low high. each c (omega arith) (omega arith)))

-- a sum with the greatest value is within what the sums with all values, and with none, are within
module _ (p : ℕ → Bool) (f : ℕ → ℕ) (k s most : ℕ) (low : k ≤ most) where
  with_max : (m n : ℕ) → k + s * m ≤ most → k + s * n ≤ most → k + s * max m n ≤ most
  with_max m n first second = elim (cases_lt m n) [
    | inl below ↦ let e : max m n ≡ n = omega arith in rw e second
    | inr above ↦ let e : max m n ≡ m = omega arith in rw e first
  ]

  with_one : (t : Bool) (a : ℕ) (xs : List ℕ) → (t ≡ true → k + s * f a ≤ most) → k + s * greatest (map f xs) ≤ most → k + s * greatest (map f (cond t (a ∷ xs) xs)) ≤ most
  with_one true a xs one others = with_max (f a) (greatest (map f xs)) (one refl) others
  with_one false a xs one others = others

  pub with_greatest : (a n : ℕ) → ((c : ℕ) → a ≤ c → c < a + n → p c ≡ true → k + s * f c ≤ most) → k + s * greatest (map f (filter p (range_with_len a n))) ≤ most
  with_greatest a zero each = let none : s * 0 ≡ 0 = omega arith in omega (arith, none)
  with_greatest a (suc n) each =
      with_one (p a) a (filter p (range_with_len (a + 1) n)) (each a (omega arith) (omega arith)) (with_greatest (a + 1) n (λ c first last. each c (omega arith) (omega arith)))
