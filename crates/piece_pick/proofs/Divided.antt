-- A number that divides the length of each piece divides the length that they make up.
use Rattle.std.proofs.Common.{◌≡◌, ℕ, ◌+◌, ◌<◌, ◌%◌, ◌==◌, false, ℤ, pos, ◌+ℤ◌, ◌≤ℤ◌, List, [], ◌∷◌, ◌++◌, length, get_or, take, add-one, take-suc, refl, sym, ◌∙◌, ap, subst, arith}
use Rattle.std.specs.Prelude.{sum_by, unsigned_abs, All}
use Rattle.std.proofs.lemmas.Int.{ints}
use Rattle.std.proofs.lemmas.List.Sums.{sum_by-cons}
use Rattle.std.proofs.lemmas.Nat.Gcd.{dvd-zero, dvd_trans, mod-eq-zero_of_dvd}
use Rattle.std.proofs.lemmas.List.Elements.{All-nil}
use Rattle.std.specs.Int.{◌∣◌, IsGcd}
use Rattle.std.proofs.Math.Nat.{dvd-add}
use Rattle.piece_pick.specs.Choice.{total}
use Rattle.piece_pick.specs.Search.{IsSupply, HasNoFill}
use Rattle.piece_pick.proofs.Drawn.{Each, each_from, each_to, each_mapped, drawn_each, total_least}

abs_sum : (a b : ℤ) → pos 1 ≤ℤ a → pos 0 ≤ℤ b → unsigned_abs (a +ℤ b) ≡ unsigned_abs a + unsigned_abs b
abs_sum a b first second = omega (arith, ints)

total_is : (xs : List ℤ) → Each (λ x. pos 1 ≤ℤ x) xs → unsigned_abs (total xs) ≡ sum_by unsigned_abs xs
total_is [] long = refl
total_is (x ∷ xs) long = abs_sum x (total xs) long.0 (total_least xs long.1) ∙ ap (λ n. unsigned_abs x + n) (total_is xs long.1) ∙ sym (sum_by-cons unsigned_abs x xs)

sum_divided : (d : ℕ) (xs : List ℤ) → Each (λ x. d ∣ unsigned_abs x) xs → d ∣ sum_by unsigned_abs xs
sum_divided d [] each = dvd-zero d
sum_divided d (x ∷ xs) each = subst (λ n. d ∣ n) (sym (sum_by-cons unsigned_abs x xs)) (dvd-add d each.0 (sum_divided d xs each.1))

-- no pieces of a supply make up a length that a divisor of all its lengths doesn't divide
pub undivided : (supply : List ℤ) (d : ℕ) (rest : ℤ) (room : ℕ) → IsSupply supply → All (λ x. d ∣ unsigned_abs x) supply
    → ¬ (d ∣ unsigned_abs rest) → HasNoFill supply rest room
undivided supply d rest room is each not_divided pieces fill =
    let long = drawn_each (λ x. pos 1 ≤ℤ x) pieces supply fill.drawn (each_from (λ x. pos 1 ≤ℤ x) supply is.long) in
    let divided = sum_divided d pieces (drawn_each (λ x. d ∣ unsigned_abs x) pieces supply fill.drawn (each_from (λ x. d ∣ unsigned_abs x) supply each)) in
    not_divided (subst (λ n. d ∣ n) (sym (total_is pieces long) ∙ ap unsigned_abs fill.sum) divided)

pub not_divided : (d n m : ℕ) → n ≡ m → (n % d == 0) ≡ false → ¬ (d ∣ m)
not_divided d n m is other divided = divides_not (subst (λ k. d ∣ k) (sym is) divided)
  where
    divides_not : d ∣ n → ⊥
    divides_not divides = by_rest (n % d) (mod-eq-zero_of_dvd d divides) other
      where
        by_rest : (k : ℕ) → k ≡ 0 → (k == 0) ≡ false → ⊥
        by_rest k none some = absurd (grind arith)

-- ---- the divisor of one piece more
each_append : (P : ℤ → Type 0) (xs ys : List ℤ) → Each P xs → Each P ys → Each P (xs ++ ys)
each_append P [] ys first second = second
each_append P (x ∷ xs) ys first second = (first.0, each_append P xs ys first.1 second)

each_front : (P : ℤ → Type 0) (xs ys : List ℤ) → Each P (xs ++ ys) → Each P xs
each_front P [] ys each = tt
each_front P (x ∷ xs) ys each = (each.0, each_front P xs ys each.1)

each_back : (P : ℤ → Type 0) (xs ys : List ℤ) → Each P (xs ++ ys) → Each P ys
each_back P [] ys each = each
each_back P (x ∷ xs) ys each = each_back P xs ys each.1

one_longer : (xs : List ℤ) (i : ℕ) → i < length xs → take (i + 1) xs ≡ take i xs ++ get_or xs i (pos 0) ∷ []
one_longer xs i within = ap (λ n. take n xs) (add-one i) ∙ take-suc xs i (pos 0) within

pub divides_nothing : (d : ℕ) → All (λ x. d ∣ unsigned_abs x) []
divides_nothing d = All-nil (λ x. d ∣ unsigned_abs x)

pub divides_more : (xs : List ℤ) (i d n e : ℕ) → i < length xs → n ≡ unsigned_abs (get_or xs i (pos 0)) → IsGcd d n e
    → All (λ x. d ∣ unsigned_abs x) (take i xs) → All (λ x. e ∣ unsigned_abs x) (take (i + 1) xs)
divides_more xs i d n e within is gcd each =
    subst (λ (ys : List ℤ). All (λ x. e ∣ unsigned_abs x) ys) (sym (one_longer xs i within))
    (each_to (λ x. e ∣ unsigned_abs x) (take i xs ++ get_or xs i (pos 0) ∷ [])
    (each_append (λ x. e ∣ unsigned_abs x) (take i xs) (get_or xs i (pos 0) ∷ [])
    (each_mapped (λ x. d ∣ unsigned_abs x) (λ x. e ∣ unsigned_abs x) (λ x divides. dvd_trans e gcd.0 divides) (take i xs)
    (each_from (λ x. d ∣ unsigned_abs x) (take i xs) each))
    (subst (λ m. e ∣ m) is gcd.1, tt)))

pub greatest_more : (xs : List ℤ) (i d n e : ℕ) → i < length xs → n ≡ unsigned_abs (get_or xs i (pos 0)) → IsGcd d n e
    → ((b : ℕ) → All (λ x. b ∣ unsigned_abs x) (take i xs) → b ∣ d) → (b : ℕ) → All (λ x. b ∣ unsigned_abs x) (take (i + 1) xs) → b ∣ e
greatest_more xs i d n e within is gcd greatest b all =
    let each = each_from (λ x. b ∣ unsigned_abs x) (take i xs ++ get_or xs i (pos 0) ∷ [])
    (subst (λ (ys : List ℤ). All (λ x. b ∣ unsigned_abs x) ys) (one_longer xs i within) all) in
    gcd.2 b (greatest b (each_to (λ x. b ∣ unsigned_abs x) (take i xs) (each_front (λ x. b ∣ unsigned_abs x) (take i xs) (get_or xs i (pos 0) ∷ []) each)))
    (subst (λ m. b ∣ m) (sym is) (each_back (λ x. b ∣ unsigned_abs x) (take i xs) (get_or xs i (pos 0) ∷ []) each).0)
