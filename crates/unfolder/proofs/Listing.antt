-- Lists that a loop fills, one element for each number.
use Rattle.std.proofs.Common.{◌≡◌, ℕ, ◌+◌, List, [], ◌∷◌, ◌++◌, map, All, sym, ◌∙◌, ap, subst}
use Rattle.std.specs.List.{range_with_len}
use Rattle.std.proofs.lemmas.List.FromFn.{map-range_with_len_more}
use Rattle.std.proofs.lemmas.List.Elements.{All-push}

-- one element more
pub push_next : {X : Type 0} (g : ℕ → X) (a n j : ℕ) (xs ys : List X) (x : X) → ys ≡ xs ++ x ∷ [] → xs ≡ map g (range_with_len a n) → x ≡ g j → a + n ≡ j → ys ≡ map g (range_with_len a (n + 1))
push_next g a n j xs ys x pushed so_far here number = pushed ∙ (λ i. so_far i ++ here i ∷ []) ∙ sym (map-range_with_len_more g a n j number)

pub all_pushed : {X : Type 0} (P : X → Type 0) (xs ys : List X) (x : X) → ys ≡ xs ++ x ∷ [] → All P xs → P x → All P ys
all_pushed P xs ys x pushed so_far here = subst (All P) (sym pushed) (All-push P xs x so_far here)

-- the numbers that the loop has come to are all of them
pub all_listed : {X : Type 0} (g : ℕ → X) (a n m : ℕ) (xs : List X) → xs ≡ map g (range_with_len a n) → n ≡ m → xs ≡ map g (range_with_len a m)
all_listed g a n m xs listed same = listed ∙ ap (λ k. map g (range_with_len a k)) same
