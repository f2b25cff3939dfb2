-- The way to the nearest of some stages.
use Rattle.std.proofs.Common.{◌≡◌, ◌⊎◌, inl, inr, ℕ, zero, suc, ◌+◌, ◌<◌, ◌≤◌, Bool, true, false, cond, List, [], ◌∷◌, filter, arith}
use Rattle.std.specs.List.{range_with_len}
use Rattle.std.proofs.lemmas.Bool.Decides.{eqb_tells}
use Rattle.handling_cost.specs.StepCost.{distance}
use Rattle.handling_cost.specs.Bound.{nearest}

-- the number is one of the list
abbrev IsOneOf : ℕ → List ℕ → Type 0
IsOneOf s [] = ⊥
IsOneOf s (x ∷ xs) = (s ≡ x) ⊎ IsOneOf s xs

at_most_one : (from s : ℕ) (stages : List ℕ) → IsOneOf s stages → nearest from stages ≤ distance from s
at_most_one from s [] one = absurd one
at_most_one from s (x ∷ []) (inl same) = omega (arith, same)
at_most_one from s (x ∷ []) (inr none) = absurd none
at_most_one from s (x ∷ y ∷ others) (inl same) = omega (arith, same)
at_most_one from s (x ∷ y ∷ others) (inr later) = let rest = at_most_one from s (y ∷ others) later in omega (arith, rest)

is_picked : (p : ℕ → Bool) (a n s : ℕ) → a ≤ s → s < a + n → p s ≡ true → IsOneOf s (filter p (range_with_len a n))
is_picked p a zero s first last passes = absurd (omega arith)
is_picked p a (suc n) s first last passes = elim (eqb_tells s a) [
  | inl here ↦ let now : p a ≡ true = rw here.1 at passes in rw now (inl here.1)
  | inr other ↦ later (p a) (is_picked p (a + 1) n s (let no = other.1 in omega (arith, no)) (omega arith) passes)
]
  where
    later : (t : Bool) → IsOneOf s (filter p (range_with_len (a + 1) n)) → IsOneOf s (cond t (a ∷ filter p (range_with_len (a + 1) n)) (filter p (range_with_len (a + 1) n)))
    later true one = inr one
    later false one = one

-- a stage that passes is no nearer than the nearest
pub nearest_at_most : (p : ℕ → Bool) (n from s : ℕ) → s < n → p s ≡ true → nearest from (filter p (range_with_len 0 n)) ≤ distance from s
nearest_at_most p n from s within passes = at_most_one from s (filter p (range_with_len 0 n)) (is_picked p 0 n s (omega arith) (omega arith) passes)

-- a stage that passes is the nearest to itself
pub nearest_itself : (p : ℕ → Bool) (n s : ℕ) → s < n → p s ≡ true → nearest s (filter p (range_with_len 0 n)) ≡ 0
nearest_itself p n s within passes = let most = nearest_at_most p n s s within passes in omega (arith, most)

-- the way over another stage is no shorter
pub nearest_through : (from to : ℕ) (stages : List ℕ) → nearest from stages ≤ distance from to + nearest to stages
nearest_through from to [] = omega arith
nearest_through from to (s ∷ []) = omega arith
nearest_through from to (s ∷ t ∷ others) = let rest = nearest_through from to (t ∷ others) in omega (arith, rest)

abbrev AreBelow : ℕ → List ℕ → Type 0
AreBelow count [] = Unit {0}
AreBelow count (x ∷ xs) = (x < count) × AreBelow count xs

-- no way is longer than there are stages
pub nearest_small : (p : ℕ → Bool) (from count a n : ℕ) → from < count → a + n ≤ count → nearest from (filter p (range_with_len a n)) ≤ count
nearest_small p from count a n within fits = small (filter p (range_with_len a n)) (inside a n fits)
  where
    one : (t : Bool) (x : ℕ) (xs : List ℕ) → x < count → AreBelow count xs → AreBelow count (cond t (x ∷ xs) xs)
    one true x xs low rest = (low, rest)
    one false x xs low rest = rest

    inside : (b m : ℕ) → b + m ≤ count → AreBelow count (filter p (range_with_len b m))
    inside b zero fit = tt
    inside b (suc m) fit = one (p b) b (filter p (range_with_len (b + 1) m)) (omega arith) (inside (b + 1) m (omega arith))

    small : (xs : List ℕ) → AreBelow count xs → nearest from xs ≤ count
    small [] below = omega arith
    small (x ∷ []) below = let low = below.0 in omega (arith, low)
    small (x ∷ y ∷ others) below = let rest = small (y ∷ others) below.1 in omega (arith, rest)
