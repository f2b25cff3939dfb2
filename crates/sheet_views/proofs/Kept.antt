-- Lists that are filled item by item.
use Rattle.std.proofs.Common.{◌≡◌, ℕ, ◌+◌, ◌<◌, Bool, true, false, cond, List, [], ◌∷◌, ◌++◌, map, take, get_or, filter, length, refl, sym, subst, ap, ◌∙◌}
use Rattle.std.specs.Prelude.{All}
use Rattle.std.proofs.lemmas.List.Elements.{filter_more, All-head, All-tail}
use Rattle.std.proofs.lemmas.List.{take_more, map_push, get_or_default}

-- one item more, which passes the test, or doesn't
pub kept_more : {X : Type 0} (p : X → Bool) (xs : List X) (i : ℕ) (d : X) (before after : List X) → i < length xs → p (get_or xs i d) ≡ true → before ≡ filter p (take i xs) → after ≡ before ++ get_or xs i d ∷ [] → after ≡ filter p (take (i + 1) xs)
kept_more {X = X} p xs i d before after inside passes so_far pushed =
    let x = get_or xs i d in
    pushed ∙ ap (λ (ys : List X). ys ++ x ∷ []) so_far
    ∙ ap (λ (t : Bool). filter p (take i xs) ++ cond t (x ∷ []) []) (sym passes) ∙ sym (filter_more p xs i d inside)

pub left_out : {X : Type 0} (p : X → Bool) (xs : List X) (i : ℕ) (d : X) (before after : List X) → i < length xs → p (get_or xs i d) ≡ false → before ≡ filter p (take i xs) → after ≡ before → after ≡ filter p (take (i + 1) xs)
left_out {X = X} p xs i d before after inside fails so_far same =
    let x = get_or xs i d in
    same ∙ so_far ∙ sym (append_nothing (filter p (take i xs)))
    ∙ ap (λ (t : Bool). filter p (take i xs) ++ cond t (x ∷ []) []) (sym fails) ∙ sym (filter_more p xs i d inside)
  where
    append_nothing : (ys : List X) → ys ++ [] ≡ ys
    append_nothing [] = refl
    append_nothing (y ∷ ys) = ap (λ (zs : List X). y ∷ zs) (append_nothing ys)

-- one item more in the list of what f gives of the items so far
pub mapped_more : {X Y : Type 0} (f : X → Y) (xs : List X) (i : ℕ) (d : X) (y : Y) (before after : List Y) → i < length xs → y ≡ f (get_or xs i d) → after ≡ before ++ y ∷ [] → before ≡ map f (take i xs) → after ≡ map f (take (i + 1) xs)
mapped_more {X = X} {Y = Y} f xs i d y before after inside is pushed so_far =
    pushed ∙ ap (λ (ys : List Y). ys ++ y ∷ []) so_far ∙ ap (λ (z : Y). map f (take i xs) ++ z ∷ []) is
    ∙ sym (map_push f (take i xs) (get_or xs i d)) ∙ ap (map f) (sym (take_more xs i d inside))

-- two functions that agree on the items of a list give the same list
pub map_same : {X Y : Type 0} (f g : X → Y) (xs : List X) → All (λ x. f x ≡ g x) xs → map f xs ≡ map g xs
map_same f g [] same = refl
map_same f g (x ∷ xs) same =
    let here = All-head (λ x. f x ≡ g x) x xs same in
    let rest = map_same f g xs (All-tail (λ x. f x ≡ g x) x xs same) in
    λ i. here i ∷ rest i

-- what the code reads at an index
pub read_at : {X : Type 0} (xs ys : List X) (i f : ℕ) (x d : X) → ys ≡ xs → i ≡ f → x ≡ get_or ys i x → f < length xs → x ≡ get_or xs f d
read_at xs ys i f x d same at is inside = is ∙ (λ k. get_or (same k) (at k) x) ∙ get_or_default xs f x d inside

-- the same at an index of a list that is the same, at any default
pub same_at : {X : Type 0} (xs ys : List X) (i f : ℕ) (d e : X) → ys ≡ xs → i ≡ f → f < length xs → get_or ys i d ≡ get_or xs f e
same_at xs ys i f d e same at inside = (λ k. get_or (same k) (at k) d) ∙ get_or_default xs f d e inside

pub all_at : {X : Type 0} (P : X → Type 0) (xs ys : List X) (i f : ℕ) (d : X) → ys ≡ xs → i ≡ f → f < length xs → All P xs → P (get_or ys i d)
all_at P xs ys i f d same at inside all = subst P (sym (same_at xs ys i f d d same at inside)) (all f d inside)
