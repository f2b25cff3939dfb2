-- The first number, or the first pair of numbers, for which a test holds.
use Rattle.std.proofs.Common.{◌≡◌, ℕ, zero, suc, ◌+◌, ◌-◌, ◌<◌, ◌≤◌, Bool, true, false, cond, List, [], ◌∷◌, map, length, get_or, Some, None, refl, ◌∙◌, ap, subst, arith}
use Rattle.std.specs.Prelude.{find, position, flat_map, option_map}
use Rattle.std.specs.List.{range_with_len, position_from}
use Rattle.std.specs.Option.{option_or}
use Rattle.std.proofs.lemmas.List.Folds.{find-append}
use Rattle.std.proofs.lemmas.Iterator.Adapters.{position_from-zero}

-- the test fails for each number from a on that is below j
abbrev pub NoneBelow : (ℕ → Bool) → ℕ → ℕ → Type 0
NoneBelow p a j = (k : ℕ) → a ≤ k → k < j → p k ≡ false

pub find_none : (p : ℕ → Bool) (a n : ℕ) → NoneBelow p a (a + n) → find p (range_with_len a n) ≡ None
find_none p a zero none = refl
find_none p a (suc n) none =
    let here : p a ≡ false = none a (omega arith) (omega arith) in
    rw here (find_none p (a + 1) n (λ k low high. none k (omega arith) (omega arith)))

pub find_first : (p : ℕ → Bool) (a n j : ℕ) → NoneBelow p a j → p j ≡ true → a ≤ j → j < a + n → find p (range_with_len a n) ≡ Some j
find_first p a zero j none here low high = absurd (omega arith)
find_first p a (suc n) j none here low high = by_gap (j - a) refl (λ more. find_first p (a + 1) n j (λ k l h. none k (omega arith) h) here more (omega arith))
  where
    by_gap : (gap : ℕ) → gap ≡ j - a → (a + 1 ≤ j → find p (range_with_len (a + 1) n) ≡ Some j) → cond (p a) (Some a) (find p (range_with_len (a + 1) n)) ≡ Some j
    by_gap zero e further = let same : a ≡ j = omega (arith, low) in let now : p a ≡ true = ap p same ∙ here in rw now (ap Some same)
    by_gap (suc gap) e further = let no : p a ≡ false = none a (omega arith) (omega arith) in rw no (further (omega arith))

-- two tests that agree on the numbers find the same
pub find_same : (p r : ℕ → Bool) (a n : ℕ) → ((k : ℕ) → a ≤ k → k < a + n → p k ≡ r k) → find p (range_with_len a n) ≡ find r (range_with_len a n)
find_same p r a zero same = refl
find_same p r a (suc n) same =
    (λ i. cond (same a (omega arith) (omega arith) i) (Some a) (find_same p r (a + 1) n (λ k l h. same k (omega arith) (omega arith)) i))

-- in lists of pieces, one for each number: none of the pieces has what is looked for, or the first that has it is piece j
pub find_flat_none : {X : Type 0} (p : X → Bool) (g : ℕ → List X) (a n : ℕ) → ((k : ℕ) → a ≤ k → k < a + n → find p (g k) ≡ None) → find p (flat_map g (range_with_len a n)) ≡ None
find_flat_none p g a zero none = refl
find_flat_none p g a (suc n) none =
    find-append p (g a) (flat_map g (range_with_len (a + 1) n))
    ∙ (λ i. option_or (none a (omega arith) (omega arith) i) (find_flat_none p g (a + 1) n (λ k l h. none k (omega arith) (omega arith)) i))

pub find_flat_first : {X : Type 0} (p : X → Bool) (g : ℕ → List X) (a n j : ℕ) (x : X) → ((k : ℕ) → a ≤ k → k < j → find p (g k) ≡ None) → find p (g j) ≡ Some x → a ≤ j → j < a + n → find p (flat_map g (range_with_len a n)) ≡ Some x
find_flat_first p g a zero j x none here low high = absurd (omega arith)
find_flat_first p g a (suc n) j x none here low high = find-append p (g a) (flat_map g (range_with_len (a + 1) n)) ∙ by_gap (j - a) refl (λ more. find_flat_first p g (a + 1) n j x (λ k l h. none k (omega arith) h) here more (omega arith))
  where
    by_gap : (gap : ℕ) → gap ≡ j - a → (a + 1 ≤ j → find p (flat_map g (range_with_len (a + 1) n)) ≡ Some x) → option_or (find p (g a)) (find p (flat_map g (range_with_len (a + 1) n))) ≡ Some x
    by_gap zero e further = let same : a ≡ j = omega (arith, low) in let now : find p (g a) ≡ Some x = ap (λ k. find p (g k)) same ∙ here in rw now
    by_gap (suc gap) e further = let no : find p (g a) ≡ None = none a (omega arith) (omega arith) in rw no (further (omega arith))

pub find-map : {X Y : Type 0} (p : Y → Bool) (h : X → Y) (xs : List X) → find p (map h xs) ≡ option_map h (find (λ x. p (h x)) xs)
find-map p h [] = refl
find-map p h (x ∷ xs) = by_test (p (h x)) (find-map p h xs)
  where
    by_test : (t : Bool) → find p (map h xs) ≡ option_map h (find (λ y. p (h y)) xs) → cond t (Some (h x)) (find p (map h xs)) ≡ option_map h (cond t (Some x) (find (λ y. p (h y)) xs))
    by_test true e = refl
    by_test false e = e

-- the place of the first element that passes
from_first : {X : Type 0} (p : X → Bool) (xs : List X) (i : ℕ) (d : X) (j : ℕ) → ((k : ℕ) → k < j → p (get_or xs k d) ≡ false) → p (get_or xs j d) ≡ true → j < length xs → position_from p i xs ≡ Some (i + j)
from_first p [] i d j none here high = absurd (omega arith)
from_first p (x ∷ xs) i d zero none here high = let now : p x ≡ true = here in rw now (ap Some (omega arith))
from_first p (x ∷ xs) i d (suc j) none here high =
    let no : p x ≡ false = none 0 (omega arith) in
    rw no (from_first p xs (i + 1) d j (λ k h. none (suc k) (omega arith)) here (omega arith) ∙ ap Some (omega arith))

from_none : {X : Type 0} (p : X → Bool) (xs : List X) (i : ℕ) (d : X) → ((k : ℕ) → k < length xs → p (get_or xs k d) ≡ false) → position_from p i xs ≡ None
from_none p [] i d none = refl
from_none p (x ∷ xs) i d none =
    let no : p x ≡ false = none 0 (omega arith) in
    rw no (from_none p xs (i + 1) d (λ k h. none (suc k) (omega arith)))

pub position_first : {X : Type 0} (p : X → Bool) (xs : List X) (d : X) (j : ℕ) → ((k : ℕ) → k < j → p (get_or xs k d) ≡ false) → p (get_or xs j d) ≡ true → j < length xs → position p xs ≡ Some j
position_first p xs d j none here high = position_from-zero p xs ∙ from_first p xs 0 d j none here high ∙ ap Some (omega arith)

pub position_none : {X : Type 0} (p : X → Bool) (xs : List X) (d : X) → ((k : ℕ) → k < length xs → p (get_or xs k d) ≡ false) → position p xs ≡ None
position_none p xs d none = position_from-zero p xs ∙ from_none p xs 0 d none

-- one number more fails
pub none_more : (p : ℕ → Bool) (a j : ℕ) → NoneBelow p a j → p j ≡ false → NoneBelow p a (j + 1)
none_more p a j none here k low high = by_gap (j - k) refl
  where
    by_gap : (gap : ℕ) → gap ≡ j - k → p k ≡ false
    by_gap zero e = let same : j ≡ k = omega (arith, high) in subst (λ m. p m ≡ false) same here
    by_gap (suc gap) e = none k low (omega arith)
