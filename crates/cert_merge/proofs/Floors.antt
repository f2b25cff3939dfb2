-- The least of some numbers, one number more and sums of sums.
use Rattle.std.proofs.Common.{◌≡◌, inl, inr, ℕ, ◌+◌, ◌<◌, ◌≤◌, sym, ◌∙◌, subst, arith}
use Rattle.std.specs.Prelude.{◌⊎◌, min}
use Rattle.std.proofs.lemmas.Bool.{cases_lt}
use Rattle.std.proofs.lemmas.Int.{clamps}
use Rattle.cert_merge.specs.SetWorths.{IsFloor, IsLeastSum}

-- numbers that are among some exactly where they are among others have the same least
pub floor_moved : (A B : ℕ → Type 0) (number : ℕ) → ((n : ℕ) → A n → B n) → ((n : ℕ) → B n → A n) → IsFloor A number → IsFloor B number
floor_moved A B number to from is = record {
  one = elim is.one [ inl never ↦ inl never | inr among ↦ inr (to number among) ];
  least = λ other among. is.least other (from other among);
}

pub floor_none : (A : ℕ → Type 0) (number : ℕ) → 1500000000 ≤ number → ((n : ℕ) → A n → ⊥) → IsFloor A number
floor_none A number top none = record { one = inl top; least = λ other among. absurd (none other among) }

-- the lesser of two numbers is one of them
lesser_is : (number more : ℕ) → (min number more ≡ number) ⊎ (min number more ≡ more)
lesser_is number more = elim (cases_lt number more) [
  | inl less ↦ inl (omega (arith, clamps, less))
  | inr not ↦ inr (omega (arith, clamps, not))
]

-- another number
pub floor_lower : (A B : ℕ → Type 0) (number more : ℕ) → ((n : ℕ) → A n → B n) → B more → ((n : ℕ) → B n → A n ⊎ (n ≡ more)) → IsFloor A number → IsFloor B (min number more)
floor_lower A B number more to here from is = record {
  one = elim (lesser_is number more) [
    | inl same ↦ elim is.one [ inl never ↦ inl (omega (arith, same, never)) | inr among ↦ inr (subst B (sym same) (to number among)) ]
    | inr same ↦ inr (subst B (sym same) here)
  ];
  least = λ other among. elim (from other among) [
    | inl old ↦ let low = is.least other old in omega (arith, clamps, low)
    | inr same ↦ omega (arith, clamps, same)
  ];
}

-- ---- sums
pub sum_none : (cost value : ℕ → ℕ) (number : ℕ) → 1500000000 ≤ number → IsLeastSum 0 cost value number
sum_none cost value number top = record { one = inl top; least = λ k less. absurd (omega (arith, less)) }

-- another sum
pub sum_more : (count : ℕ) (cost value : ℕ → ℕ) (number result : ℕ) → result ≡ min number (cost count + value count) → IsLeastSum count cost value number → IsLeastSum (count + 1) cost value result
sum_more count cost value number result is so_far = record {
  one = elim (lesser_is number (cost count + value count)) [
    | inl same ↦ elim so_far.one [
      | inl never ↦ inl (omega (arith, is, same, never))
      | inr found ↦ let less = found.1 in inr (found.0, omega (arith, less), is ∙ (same ∙ found.2))
    ]
    | inr same ↦ inr (count, omega arith, is ∙ same)
  ];
  least = λ k less. elim (cases_lt k count) [
    | inl before ↦ let low = so_far.least k before in omega (arith, clamps, is, low)
    | inr not ↦
        let here : k ≡ count = omega (arith, less, not) in
        let low : result ≤ cost count + value count = omega (arith, clamps, is) in
        subst (λ (n : ℕ). result ≤ cost n + value n) (sym here) low
  ];
}

-- the least sum, where each value is itself the least of some
pub floor_over : (count : ℕ) (cost value : ℕ → ℕ) (Among : ℕ → ℕ → Type 0) (B : ℕ → Type 0) (number : ℕ) → IsLeastSum count cost value number → ((k : ℕ) → k < count → IsFloor (Among k) (value k))
    → ((k n : ℕ) → k < count → Among k n → B (cost k + n)) → ((n : ℕ) → B n → (k : ℕ) × (k < count) × (m : ℕ) × Among k m × (n ≡ cost k + m)) → IsFloor B number
floor_over count cost value Among B number is each to from = record {
  one = elim is.one [
    | inl never ↦ inl never
    | inr found ↦ elim (each found.0 found.1).one [
      | inl never ↦ let sum = found.2 in inl (omega (arith, sum, never))
      | inr among ↦ inr (subst B (sym found.2) (to found.0 (value found.0) found.1 among))
    ]
  ];
  least = λ other among.
      let found = from other among in
      let low = is.least found.0 found.1 in
      let inner = (each found.0 found.1).least found.2 found.3 in
      let sum = found.4 in
      omega (arith, low, inner, sum);
}
