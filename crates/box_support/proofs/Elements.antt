-- Elements of lists of numbers.
use Rattle.std.proofs.Common.{◌≡◌, ◌⊎◌, inl, inr, ℕ, zero, suc, ◌+◌, ◌<◌, ◌≤◌, Bool, true, false, cond, List, [], ◌∷◌, ◌++◌, map, filter, length, get_or, refl, sym, ◌∙◌, ap, subst, arith}
use Rattle.std.specs.Prelude.{Any}
use Rattle.std.specs.List.{range_with_len}
use Rattle.std.proofs.lemmas.List.{get_or-map, get_or_default, length-map}
use Rattle.std.proofs.Math.Nat.{eq-or-lt_of_le}
use Rattle.std.proofs.lemmas.Bool.{true≢false}

pub any_here : {X : Type 0} (P : X → Type 0) (x : X) (xs : List X) → P x → Any P (x ∷ xs)
any_here P x xs holds = (0, x, omega arith, refl, holds)

pub any_later : {X : Type 0} (P : X → Type 0) (x : X) (xs : List X) → Any P xs → Any P (x ∷ xs)
any_later P x xs some = (suc some.0, some.1, omega (arith, some.2), some.3, some.4)

pub any_before : {X : Type 0} (P : X → Type 0) (xs ys : List X) → Any P ys → Any P (xs ++ ys)
any_before P [] ys some = some
any_before P (x ∷ xs) ys some = any_later P x (xs ++ ys) (any_before P xs ys some)

pub any_after : {X : Type 0} (P : X → Type 0) (xs ys : List X) → Any P xs → Any P (xs ++ ys)
any_after P [] ys (k, x, low, same, holds) = absurd (omega (arith, low))
any_after P (z ∷ xs) ys (zero, x, low, same, holds) = any_here P z (xs ++ ys) (subst P (sym same) holds)
any_after P (z ∷ xs) ys (suc k, x, low, same, holds) = any_later P z (xs ++ ys) (any_after P xs ys (k, x, omega (arith, low), same, holds))

-- one more
pub any_split : {X : Type 0} (P : X → Type 0) (xs : List X) (y : X) → Any P (xs ++ y ∷ []) → Any P xs ⊎ P y
any_split P [] y (zero, x, low, same, holds) = inr (subst P (sym same) holds)
any_split P [] y (suc k, x, low, same, holds) = absurd (omega (arith, low))
any_split P (z ∷ xs) y (zero, x, low, same, holds) = inl (any_here P z xs (subst P (sym same) holds))
any_split P (z ∷ xs) y (suc k, x, low, same, holds) = elim (any_split P xs y (k, x, omega (arith, low), same, holds)) [
  | inl some ↦ inl (any_later P z xs some)
  | inr last ↦ inr last
]

pub any_mapped : {X Y : Type 0} (P : Y → Type 0) (f : X → Y) (xs : List X) → Any (λ x. P (f x)) xs → Any P (map f xs)
any_mapped P f xs some = (some.0, f some.1, omega (arith, some.2, length-map xs f), get_or-map f xs some.0 some.1 (f some.1) some.2 ∙ ap f some.3, some.4)

pub any_unmapped : {X Y : Type 0} (P : Y → Type 0) (f : X → Y) (d : X) (xs : List X) → Any P (map f xs) → Any (λ x. P (f x)) xs
any_unmapped {X = X} P f d xs some =
    let within : some.0 < length xs = omega (arith, some.2, length-map xs f) in
    let x = get_or xs some.0 d in
    let is : some.1 ≡ f x = sym some.3 ∙ get_or-map f xs some.0 d some.1 within in
    (some.0, x, within, get_or_default xs some.0 x d within, subst P is some.4)

-- a number of a range, and one of those that pass a test
pub any_number : (P : ℕ → Type 0) (a n c : ℕ) → a ≤ c → c < a + n → P c → Any P (range_with_len a n)
any_number P a zero c low high holds = absurd (omega (arith, low, high))
any_number P a (suc n) c low high holds = elim (eq-or-lt_of_le low) [
  | inl same ↦ any_here P a (range_with_len (a + 1) n) (subst P (sym same) holds)
  | inr above ↦ any_later P a (range_with_len (a + 1) n) (any_number P (a + 1) n c (omega (arith, above)) (omega (arith, high)) holds)
]

pub any_picked : (P : ℕ → Type 0) (p : ℕ → Bool) (a n c : ℕ) → a ≤ c → c < a + n → p c ≡ true → P c → Any P (filter p (range_with_len a n))
any_picked P p a zero c low high passes holds = absurd (omega (arith, low, high))
any_picked P p a (suc n) c low high passes holds = by_test (p a) refl (eq-or-lt_of_le low) (λ above. any_picked P p (a + 1) n c (omega (arith, above)) (omega (arith, high)) passes holds)
  where
    by_test : (t : Bool) → p a ≡ t → (a ≡ c) ⊎ (a < c) → (a < c → Any P (filter p (range_with_len (a + 1) n))) → Any P (cond t (a ∷ filter p (range_with_len (a + 1) n)) (filter p (range_with_len (a + 1) n)))
    by_test true is (inl same) later = any_here P a (filter p (range_with_len (a + 1) n)) (subst P (sym same) holds)
    by_test true is (inr above) later = any_later P a (filter p (range_with_len (a + 1) n)) (later above)
    by_test false is (inl same) later = absurd (let here = ap p same ∙ passes in true≢false (sym here ∙ is))
    by_test false is (inr above) later = later above
