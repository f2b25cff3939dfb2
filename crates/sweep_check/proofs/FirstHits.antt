-- The first item with a property, and the first hit of a piece and an item.
use Rattle.std.proofs.Common.{◌≡◌, ◌⊎◌, inl, inr, ℕ, ◌+◌, ◌<◌, ◌≤◌, List, [], ◌∷◌, length, get_or, Option, Some, None, refl, sym, ap, subst, ◌∙◌, arith}
use Rattle.std.proofs.Math.Nat.{eq-or-lt_of_le}
use Rattle.std.specs.Prelude.{All, AllPairs}
use Rattle.std.proofs.lemmas.Bool.{cases_lt}
use Rattle.std.proofs.lemmas.List.{get_or_default}
use Rattle.brake_base.specs.Order.{IsBefore}
use Rattle.brake_base.specs.Reasons.{quarter_number}
use Rattle.sweep_check.specs.declared.pieces.Piece.{Piece}
use Rattle.sweep_check.specs.Hits.{PieceIsBefore, hit_place, IsLeastNumber, IsFirstHit}

-- each item before an index has the property
abbrev pub EachBefore : {X : Type 0} → (X → Type 0) → List X → ℕ → Type 0
EachBefore {X} Q xs i = (k : ℕ) (d : X) → k < i → Q (get_or xs k d)

pub each_more : {X : Type 0} (Q : X → Type 0) (xs : List X) (i : ℕ) (d : X) → i < length xs → Q (get_or xs i d) → EachBefore Q xs i → EachBefore Q xs (i + 1)
each_more Q xs i d inside holds before = λ k e low.
    let most : k ≤ i = omega (arith, low) in
    elim (eq-or-lt_of_le most) [
      | inl same ↦ subst Q (get_or_default xs i d e inside ∙ ap (λ (n : ℕ). get_or xs n e) (sym same)) holds
      | inr less ↦ before k e less
    ]

pub each_all : {X : Type 0} (Q : X → Type 0) (xs : List X) (i : ℕ) → length xs ≤ i → EachBefore Q xs i → All Q xs
each_all Q xs i past before = λ k d inside. before k d (omega (arith, inside, past))

-- where none before an item has the property, its number is the least
pub least_at : {X : Type 0} (number : X → ℕ) (P : X → Type 0) (xs : List X) (i : ℕ) (d : X) → i < length xs → AllPairs (λ a b. number a < number b) xs → P (get_or xs i d) → EachBefore (λ y. P y → ⊥) xs i
    → IsLeastNumber number P xs (Some (number (get_or xs i d)))
least_at {X = X} number P xs i d inside ascend holds none =
    ((i, get_or xs i d, inside, get_or_default xs i (get_or xs i d) d inside, (refl, holds)), λ k e within has less. by_order k e within has less (cases_lt k i))
  where
    by_order : (k : ℕ) (e : X) → k < length xs → P (get_or xs k e) → number (get_or xs k e) < number (get_or xs i d) → (k < i) ⊎ (i ≤ k) → ⊥
    by_order k e within has less (inl before) = none k e before has
    by_order k e within has less (inr after) =
        let is = get_or_default xs i d e inside in
        elim (eq-or-lt_of_le after) [
          | inl same ↦ let one : number (get_or xs i d) ≡ number (get_or xs k e) = ap number (is ∙ ap (λ (n : ℕ). get_or xs n e) same) in omega (arith, one, less)
          | inr later ↦ let one : number (get_or xs i d) ≡ number (get_or xs i e) = ap number is in let order = ascend i k e later within in omega (arith, one, less, order)
        ]

pub none_least : {X : Type 0} (number : X → ℕ) (P : X → Type 0) (xs : List X) (found : Option ℕ) → found ≡ None → IsLeastNumber number P xs found → All (λ x. P x → ⊥) xs
none_least number P xs found is least = subst (λ (o : Option ℕ). IsLeastNumber number P xs o) is least

-- two places are in one order only
one_order : (a b c a' b' c' : ℕ) → IsBefore (a ∷ b ∷ []) (a' ∷ b' ∷ []) → IsBefore (a' ∷ b' ∷ c' ∷ []) (a ∷ b ∷ c ∷ []) → ⊥
one_order a b c a' b' c' (inl less) (inl more) = omega (arith, less, more)
one_order a b c a' b' c' (inl less) (inr rest) = let same = rest.0 in omega (arith, less, same)
one_order a b c a' b' c' (inr rest) (inl more) = let same = rest.0 in omega (arith, more, same)
one_order a b c a' b' c' (inr rest) (inr other) = by_quarter rest.1 other.1
  where
    by_quarter : IsBefore (b ∷ []) (b' ∷ []) → IsBefore (b' ∷ c' ∷ []) (b ∷ c ∷ []) → ⊥
    by_quarter (inl less) (inl more) = omega (arith, less, more)
    by_quarter (inl less) (inr end) = let same = end.0 in omega (arith, less, same)
    by_quarter (inr end) more = absurd end.1

-- places that differ in their last number alone
last_order : (a b c c' : ℕ) → IsBefore (a ∷ b ∷ c' ∷ []) (a ∷ b ∷ c ∷ []) → c' < c
last_order a b c c' (inl less) = absurd (omega (arith, less))
last_order a b c c' (inr rest) = by_quarter rest.1
  where
    by_quarter : IsBefore (b ∷ c' ∷ []) (b ∷ c ∷ []) → c' < c
    by_quarter (inl less) = absurd (omega (arith, less))
    by_quarter (inr end) = by_last end.1
      where
        by_last : IsBefore (c' ∷ []) (c ∷ []) → c' < c
        by_last (inl less) = less
        by_last (inr never) = absurd never.1

-- where no piece before one meets an item, its first hit is the first of all
pub first_at : {X : Type 0} (number : X → ℕ) (P : Piece → X → Type 0) (pieces : List Piece) (xs : List X) (i : ℕ) (d : Piece) (n : ℕ) → i < length pieces → AllPairs PieceIsBefore pieces
    → IsLeastNumber number (P (get_or pieces i d)) xs (Some n) → EachBefore (λ p. All (λ x. P p x → ⊥) xs) pieces i
    → IsFirstHit number P pieces xs (Some (record { body = (get_or pieces i d).body; quarter = (get_or pieces i d).quarter; other = n }))
first_at {X = X} number P pieces xs i d n inside ascend least none =
    ((i, get_or pieces i d, inside, get_or_default pieces i (get_or pieces i d) d inside, ((refl, refl), least.0)), λ k e within. by_order k e within (cases_lt k i))
  where
    NoneBefore : Piece → Piece → Type 0
    NoneBefore piece p = All (λ x. P p x → IsBefore (hit_place p.body p.quarter (number x)) (hit_place piece.body piece.quarter n) → ⊥) xs

    same_piece : (piece : Piece) → All (λ x. P piece x → number x < n → ⊥) xs → NoneBefore piece piece
    same_piece piece all = λ k e within has before. all k e within has (last_order piece.body (quarter_number piece.quarter) n (number (get_or xs k e)) before)

    later_piece : (piece p : Piece) → PieceIsBefore piece p → NoneBefore piece p
    later_piece piece p order = λ l e inner has before. one_order piece.body (quarter_number piece.quarter) n p.body (quarter_number p.quarter) (number (get_or xs l e)) order before

    by_order : (k : ℕ) (e : Piece) → k < length pieces → (k < i) ⊎ (i ≤ k) → NoneBefore (get_or pieces i d) (get_or pieces k e)
    by_order k e within (inl before) = λ l f inner has order. none k e before l f inner has
    by_order k e within (inr after) =
        let is = get_or_default pieces i d e inside in
        elim (eq-or-lt_of_le after) [
          | inl same ↦ subst (NoneBefore (get_or pieces i d)) (is ∙ ap (λ (m : ℕ). get_or pieces m e) same) (same_piece (get_or pieces i d) least.1)
          | inr later ↦ later_piece (get_or pieces i d) (get_or pieces k e) (subst (λ (q : Piece). PieceIsBefore q (get_or pieces k e)) (sym is) (ascend i k e later within))
        ]
