-- The lines of numbered things, with one more.
use Rattle.std.proofs.Common.{◌≡◌, ℕ, zero, suc, ◌+◌, List, [], ◌∷◌, ◌++◌, sym, ap, ◌∙◌, append_assoc, arith}
use Rattle.std.specs.List.{flat_map, range_with_len}
use Rattle.std.proofs.lemmas.List.{append-nil}
use Rattle.std.proofs.lemmas.Grind.{flat_map-append}

numbers_more : (a n m : ℕ) → a + n ≡ m → range_with_len a (suc n) ≡ range_with_len a n ++ m ∷ []
numbers_more a zero m at =
    let here : a ≡ m = omega arith in
    ap (λ (k : ℕ). k ∷ []) here
numbers_more a (suc n) m at = ap (λ (t : List ℕ). a ∷ t) (numbers_more (a + 1) n m (omega arith))

-- a text that ends with the lines of the first so many, and then the lines of the next
pub numbered_more : (line : ℕ → List ℕ) (i : ℕ) (front before after next : List ℕ)
    → before ≡ front ++ flat_map line (range_with_len 0 i) → after ≡ before ++ next → line i ≡ next
    → after ≡ front ++ flat_map line (range_with_len 0 (suc i))
numbered_more line i front before after next so_far grown is =
    let step : flat_map line (range_with_len 0 (suc i)) ≡ flat_map line (range_with_len 0 i) ++ next =
    ap (λ (numbers : List ℕ). flat_map line numbers) (numbers_more 0 i i (omega arith)) ∙ flat_map-append line (range_with_len 0 i) (i ∷ []) ∙ ap (λ (t : List ℕ). flat_map line (range_with_len 0 i) ++ t) (append-nil (line i) ∙ is) in
    grown ∙ ap (λ (t : List ℕ). t ++ next) so_far ∙ append_assoc front _ _ ∙ ap (λ (t : List ℕ). front ++ t) (sym step)
