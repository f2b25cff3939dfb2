-- The shortest of the faces so far, with one more.
use Rattle.std.proofs.Common.{◌≡◌, ℕ, ◌+◌, ℤ, Bool, true, false, cond, List, [], ◌∷◌, ◌++◌, filter, append-nil, Option, Some, None, arith, ap, ◌∙◌}
use Rattle.std.specs.Prelude.{fold}
use Rattle.std.specs.List.{range_with_len}
use Rattle.std.proofs.lemmas.List.Sums.{fold-append}
use Rattle.fold_boxes.proofs.Picked.{filter_more}
use Rattle.sheet_words.specs.Reasons.{shorter}

-- the shortest of the faces of a set below n
abbrev pub best_below : (ℕ → ℤ) → (ℕ → Bool) → ℕ → Option ℕ
best_below reach set n = fold (λ least face. Some (shorter reach least face)) None (filter set (range_with_len 0 n))

pub best_more : (reach : ℕ → ℤ) (set : ℕ → Bool) (n : ℕ) → set n ≡ true → best_below reach set (n + 1) ≡ Some (shorter reach (best_below reach set n) n)
best_more reach set n in_set =
    let before = filter set (range_with_len 0 n) in
    ap (fold (λ (least : Option ℕ) (face : ℕ). Some (shorter reach least face)) None) (filter_more set 0 n n (omega arith) ∙ ap (λ (t : Bool). before ++ cond t (n ∷ []) []) in_set)
    ∙ fold-append (λ (least : Option ℕ) (face : ℕ). Some (shorter reach least face)) None before (n ∷ [])

pub best_same : (reach : ℕ → ℤ) (set : ℕ → Bool) (n : ℕ) → set n ≡ false → best_below reach set (n + 1) ≡ best_below reach set n
best_same reach set n not_in =
    let before = filter set (range_with_len 0 n) in
    ap (fold (λ (least : Option ℕ) (face : ℕ). Some (shorter reach least face)) None) (filter_more set 0 n n (omega arith) ∙ ap (λ (t : Bool). before ++ cond t (n ∷ []) []) not_in ∙ append-nil before)
