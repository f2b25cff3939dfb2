-- There is one first choice of pieces.
use Rattle.std.proofs.Common.{◌≡◌, ◌⊎◌, inl, inr, ℤ, List, [], ◌∷◌, sym, subst, arith}
use Rattle.std.proofs.lemmas.Int.{ints}
use Rattle.piece_pick.specs.Choice.{IsAhead, ComesFirst}

-- of two different lists one alone is ahead
not_both : (a b : List ℤ) → IsAhead a b → IsAhead b a → ⊥
not_both [] b ahead other = absurd ahead
not_both (x ∷ xs) [] ahead other = absurd ahead
not_both (x ∷ xs) (y ∷ ys) (inl less) (inl more) = omega (arith, ints, less, more)
not_both (x ∷ xs) (y ∷ ys) (inl less) (inr (same, more)) = omega (arith, ints, less, same)
not_both (x ∷ xs) (y ∷ ys) (inr (same, less)) (inl more) = omega (arith, ints, more, same)
not_both (x ∷ xs) (y ∷ ys) (inr (same, less)) (inr (again, more)) = not_both xs ys less more

not_itself : (a : List ℤ) → IsAhead a a → ⊥
not_itself a ahead = not_both a a ahead ahead

-- so of two different choices one alone comes first
not_both_first : (a b : List (List ℤ)) → ComesFirst a b → ComesFirst b a → ⊥
not_both_first [] b first other = absurd first
not_both_first (x ∷ xs) [] first other = absurd first
not_both_first (x ∷ xs) (y ∷ ys) (inl ahead) (inl other) = not_both x y ahead other
not_both_first (x ∷ xs) (y ∷ ys) (inl ahead) (inr (same, later)) = not_itself x (subst (λ l. IsAhead x l) same ahead)
not_both_first (x ∷ xs) (y ∷ ys) (inr (same, first)) (inl ahead) = not_itself x (subst (λ l. IsAhead l x) (sym same) ahead)
not_both_first (x ∷ xs) (y ∷ ys) (inr (same, first)) (inr (again, later)) = not_both_first xs ys first later

-- two choices each of which is the other or comes before it are one
pub one_first : (a b : List (List ℤ)) → (b ≡ a) ⊎ ComesFirst a b → (a ≡ b) ⊎ ComesFirst b a → a ≡ b
one_first a b (inl same) other = sym same
one_first a b (inr first) (inl same) = same
one_first a b (inr first) (inr later) = absurd (not_both_first a b first later)
