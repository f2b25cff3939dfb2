-- What the first items of a list give, and the next.
use Rattle.std.proofs.Common.{◌≡◌, ℕ, zero, suc, ◌+◌, ◌<◌, length, get_or, List, [], ◌∷◌, ◌++◌, take, sym, ap, ◌∙◌, append_assoc, map, refl, subst, arith}
use Rattle.std.specs.Prelude.{slice_get, option_map, Some}
use Rattle.std.specs.List.{AllZip, flat_map, enumerate_from}
use Rattle.std.proofs.lemmas.Option.{same_Some, slice_get_within, slice_get_read, slice_get-map}
use Rattle.std.proofs.lemmas.Slice.Zip.{all_zipped_more}
use Rattle.std.proofs.lemmas.List.{append-nil, get_or-map, length-map, map_more, map_push}
use Rattle.std.proofs.lemmas.Grind.{flat_map-append}

-- the first so many items, and the next
pub take_more : {X : Type 0} (i : ℕ) (xs : List X) (x : X) → slice_get xs i ≡ Some x → take (suc i) xs ≡ take i xs ++ x ∷ []
take_more i [] x is = absurd (omega (arith, slice_get_within [] i x is))
take_more zero (y ∷ xs) x is = ap (λ z. z ∷ []) (same_Some y x is)
take_more (suc i) (y ∷ xs) x is = ap (λ rest. y ∷ rest) (take_more i xs x is)

-- a text that ends with what the first so many items give, and then what the next gives
pub gives_next : {X A : Type 0} (f : X → List A) (i : ℕ) (xs : List X) (x : X) (front before after : List A) → slice_get xs i ≡ Some x
    → before ≡ front ++ flat_map f (take i xs) → after ≡ before ++ f x → after ≡ front ++ flat_map f (take (suc i) xs)
gives_next f i xs x front before after here so_far grown =
    let next : flat_map f (take (suc i) xs) ≡ flat_map f (take i xs) ++ f x =
    ap (λ some. flat_map f some) (take_more i xs x here) ∙ flat_map-append f (take i xs) (x ∷ []) ∙ ap (λ t. flat_map f (take i xs) ++ t) (append-nil (f x)) in
    grown ∙ ap (λ t. t ++ f x) so_far ∙ append_assoc front _ _ ∙ ap (λ t. front ++ t) (sym next)

-- the place of one more
placed_more : {X : Type 0} (n i : ℕ) (xs : List X) (x : X) → i < length xs → x ≡ get_or xs i x → enumerate_from n (take (suc i) xs) ≡ enumerate_from n (take i xs) ++ (n + i, x) ∷ []
placed_more n i [] x within here = absurd (omega (arith, within))
placed_more n zero (y ∷ xs) x within here =
    let same : n + 0 ≡ n = omega arith in
    λ t. (sym same t, sym here t) ∷ []
placed_more n (suc i) (y ∷ xs) x within here =
    let same : n + 1 + i ≡ n + suc i = omega arith in
    ap (λ placed. (n, y) ∷ placed) (placed_more (n + 1) i xs x (omega (arith, within)) here ∙ ap (λ k. enumerate_from (n + 1) (take i xs) ++ (k, x) ∷ []) same)

-- what those so far give, and the next
pub gives_more : {X A : Type 0} (f : ℕ × X → List A) (i : ℕ) (xs : List X) (x : X) → i < length xs → x ≡ get_or xs i x
    → flat_map f (enumerate_from 0 (take (suc i) xs)) ≡ flat_map f (enumerate_from 0 (take i xs)) ++ f (i, x)
gives_more f i xs x within here =
    let same : 0 + i ≡ i = omega arith in
    ap (λ placed. flat_map f placed) (placed_more 0 i xs x within here ∙ ap (λ k. enumerate_from 0 (take i xs) ++ (k, x) ∷ []) same)
    ∙ flat_map-append f (enumerate_from 0 (take i xs)) ((i, x) ∷ []) ∙ ap (λ t. flat_map f (enumerate_from 0 (take i xs)) ++ t) (append-nil (f (i, x)))

-- a list of what those so far give by their views, and of what the next gives
pub placed_next : {X Y A : Type 0} (f : ℕ × Y → List A) (view : X → Y) (i : ℕ) (xs : List X) (x : X) (before after : List A) → i < length xs → x ≡ get_or xs i x
    → before ≡ flat_map f (enumerate_from 0 (take i (map view xs))) → after ≡ before ++ f (i, view x) → after ≡ flat_map f (enumerate_from 0 (take (suc i) (map view xs)))
placed_next f view i xs x before after within here so_far grown =
    let seen : view x ≡ get_or (map view xs) i (view x) = ap view here ∙ sym (get_or-map view xs i x (view x) within) in
    let inside : i < length (map view xs) = rw (length-map xs view) within in
    grown ∙ ap (λ t. t ++ f (i, view x)) so_far ∙ sym (gives_more f i (map view xs) (view x) inside seen)

-- two lists whose items are related by their views, and one more of each
pub zipped_next : {A B C D : Type 0} (R : C → D → Type 0) (f : A → C) (g : B → D) (i : ℕ) (xs : List A) (x : A) (ys : List B) (y : B) → i < length xs → x ≡ get_or xs i x
    → AllZip R (map f (take i xs)) (map g ys) → R (f x) (g y) → AllZip R (map f (take (i + 1) xs)) (map g (ys ++ y ∷ []))
zipped_next R f g i xs x ys y within here so_far next =
    rw (map_more f xs i x within, map_push g ys y)
    (all_zipped_more R (map f (take i xs)) (map g ys) (f (get_or xs i x)) (g y) so_far (subst (λ z. R (f z) (g y)) here next))

-- the view of the item at a place is there in the list of views
pub seen_in : {A B : Type 0} (f : A → B) (xs : List A) (i : ℕ) (x : A) → i < length xs → x ≡ get_or xs i x → slice_get (map f xs) i ≡ Some (f x)
seen_in f xs i x within here = slice_get-map f xs i ∙ ap (option_map f) (slice_get_read xs (length xs) i x refl within here)
