-- Numbers of a range that pass a test: what holds of each, and the list of what belongs to them, one number more.
use Rattle.std.proofs.Common.{◌≡◌, ℕ, zero, suc, ◌+◌, ◌-◌, ◌<◌, ◌≤◌, Bool, true, false, cond, List, [], ◌∷◌, ◌++◌, map, filter, append_assoc, append-nil, refl, sym, ◌∙◌, ap, arith}
use Rattle.std.specs.Prelude.{All}
use Rattle.std.specs.List.{range_with_len}
use Rattle.std.proofs.lemmas.List.{map-append}
use Rattle.std.proofs.lemmas.List.Elements.{All-nil, All-cons}
use Rattle.std.proofs.lemmas.List.FromFn.{filter_of_map_range_with_len_more}

-- what holds of each number of a range, and of each that passes the test
pub all_numbers : (R : ℕ → Type 0) (a n : ℕ) → ((k : ℕ) → a ≤ k → k < a + n → R k) → All R (range_with_len a n)
all_numbers R a zero each = All-nil R
all_numbers R a (suc n) each = All-cons R a (range_with_len (a + 1) n) (each a (omega arith) (omega arith)) (all_numbers R (a + 1) n (λ k low high. each k (omega (arith, low)) (omega (arith, high))))

pub all_picked : (R : ℕ → Type 0) (p : ℕ → Bool) (a n : ℕ) → ((k : ℕ) → a ≤ k → k < a + n → p k ≡ true → R k) → All R (filter p (range_with_len a n))
all_picked R p a zero each = All-nil R
all_picked R p a (suc n) each = by_test (p a) refl (all_picked R p (a + 1) n (λ k low high. each k (omega (arith, low)) (omega (arith, high))))
  where
    by_test : (t : Bool) → p a ≡ t → All R (filter p (range_with_len (a + 1) n)) → All R (cond t (a ∷ filter p (range_with_len (a + 1) n)) (filter p (range_with_len (a + 1) n)))
    by_test true is later = All-cons R a (filter p (range_with_len (a + 1) n)) (each a (omega arith) (omega arith) is) later
    by_test false is later = later

map_same : (xs : List ℕ) → map (λ x. x) xs ≡ xs
map_same [] = refl
map_same (x ∷ xs) = ap (λ ys. x ∷ ys) (map_same xs)

pub filter_more : (p : ℕ → Bool) (a n j : ℕ) → a + n ≡ j → filter p (range_with_len a (n + 1)) ≡ filter p (range_with_len a n) ++ cond (p j) (j ∷ []) []
filter_more p a n j at =
    ap (filter p) (sym (map_same (range_with_len a (n + 1))))
    ∙ filter_of_map_range_with_len_more p (λ x. x) a n j at ∙ ap (λ xs. filter p xs ++ cond (p j) (j ∷ []) []) (map_same (range_with_len a n))

picked : {X : Type 0} (g : ℕ → X) (t : Bool) (j : ℕ) → map g (cond t (j ∷ []) []) ≡ cond t (g j ∷ []) []
picked g true j = refl
picked g false j = refl

-- the number b is tested, and what belongs to it is put at the end where it passes
pub pick_next : {X : Type 0} (g : ℕ → X) (p : ℕ → Bool) (b : ℕ) (start xs ys : List X) → 0 < b → xs ≡ start ++ map g (filter p (range_with_len 1 (b - 1))) → ys ≡ xs ++ cond (p b) (g b ∷ []) []
    → ys ≡ start ++ map g (filter p (range_with_len 1 (b + 1 - 1)))
pick_next g p b start xs ys some so_far more =
    let before = map g (filter p (range_with_len 1 (b - 1))) in
    let last = cond (p b) (g b ∷ []) [] in
    let same : b + 1 - 1 ≡ (b - 1) + 1 = omega arith in
    let all : map g (filter p (range_with_len 1 (b + 1 - 1))) ≡ before ++ last =
    ap (λ n. map g (filter p (range_with_len 1 n))) same
    ∙ ap (map g) (filter_more p 1 (b - 1) b (omega arith))
    ∙ map-append g (filter p (range_with_len 1 (b - 1))) (cond (p b) (b ∷ []) [])
    ∙ ap (λ zs. before ++ zs) (picked g (p b) b) in
    more ∙ ap (λ zs. zs ++ last) so_far ∙ append_assoc start before last ∙ ap (λ zs. start ++ zs) (sym all)

pub put_at_end : {X : Type 0} (t : Bool) (xs ys : List X) (x : X) → t ≡ true → ys ≡ xs ++ x ∷ [] → ys ≡ xs ++ cond t (x ∷ []) []
put_at_end t xs ys x e h = rw e h

pub put_nothing : {X : Type 0} (t : Bool) (xs ys : List X) (x : X) → t ≡ false → ys ≡ xs → ys ≡ xs ++ cond t (x ∷ []) []
put_nothing t xs ys x e h = rw e (h ∙ sym (append-nil xs))
