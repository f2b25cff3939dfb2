-- Lists that are collected in turn.
use Rattle.std.proofs.Common.{◌≡◌, ℕ, ◌+◌, ◌<◌, List, [], ◌∷◌, ◌++◌, length, get_or, take, map, Option, Some, None, refl, sym, ap, ◌∙◌}
use Rattle.std.specs.Prelude.{filter_map, option_to_list}
use Rattle.std.proofs.lemmas.List.{take_more, map-append, append-nil}
use Rattle.std.proofs.lemmas.List.Elements.{filter_map-append}

single : {B D : Type 0} (f : D → Option B) (d : D) (o : Option B) → f d ≡ o → filter_map f (d ∷ []) ≡ option_to_list o
single f d None e = rw e
single f d (Some b) e = rw e

-- one more item is looked at
filter_map_more : {A B D : Type 0} (f : D → Option B) (g : A → D) (xs : List A) (x : A) (i : ℕ) (o : Option B) → i < length xs → x ≡ get_or xs i x → f (g x) ≡ o
    → filter_map f (map g (take (i + 1) xs)) ≡ filter_map f (map g (take i xs)) ++ option_to_list o
filter_map_more {A = A} f g xs x i o lt here gives =
    let grown : take (i + 1) xs ≡ take i xs ++ x ∷ [] = take_more xs i x lt ∙ ap (λ (y : A). take i xs ++ y ∷ []) (sym here) in
    rw (grown, map-append g (take i xs) (x ∷ []), filter_map-append f (map g (take i xs)) (g x ∷ []), single f (g x) o gives) refl

-- it gives a value
pub collects : {A B D : Type 0} (f : D → Option B) (g : A → D) (xs : List A) (x : A) (i : ℕ) (b : B) (front : List B) → i < length xs → x ≡ get_or xs i x → f (g x) ≡ Some b → filter_map f (map g (take i xs)) ≡ front
    → filter_map f (map g (take (i + 1) xs)) ≡ front ++ b ∷ []
collects {B = B} f g xs x i b front lt here gives so_far = filter_map_more f g xs x i (Some b) lt here gives ∙ ap (λ (bs : List B). bs ++ b ∷ []) so_far

-- it gives none
pub skips : {A B D : Type 0} (f : D → Option B) (g : A → D) (xs : List A) (x : A) (i : ℕ) (front : List B) → i < length xs → x ≡ get_or xs i x → f (g x) ≡ None → filter_map f (map g (take i xs)) ≡ front
    → filter_map f (map g (take (i + 1) xs)) ≡ front
skips f g xs x i front lt here gives so_far = filter_map_more f g xs x i None lt here gives ∙ append-nil (filter_map f (map g (take i xs))) ∙ so_far
