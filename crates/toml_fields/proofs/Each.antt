-- Items that are read in turn, by a loop that keeps what it has read in front of what is left.
use Rattle.std.proofs.Common.{◌≡◌, ℕ, suc, ◌+◌, ◌<◌, ◌≤◌, List, [], ◌∷◌, ◌++◌, map, length, get_or, drop, Result, Ok, Err, refl, sym, ap, ◌∙◌, append_assoc, add-one, drop-cons}
use Rattle.std.proofs.lemmas.List.{append-nil, drop_all}
use Rattle.toml_fields.specs.Results.{◌>>=◌, each_from}

-- what was read, and then what the rest gives
abbrev pub with_front : {B E : Type 0} → List B → Result (List B) E → Result (List B) E
with_front front rest = rest >>= λ ys. Ok (front ++ ys)

with_front-nil : {B E : Type 0} (rest : Result (List B) E) → with_front [] rest ≡ rest
with_front-nil (Ok ys) = refl
with_front-nil (Err e) = refl

regroup : {B E : Type 0} (front : List B) (y : B) (rest : Result (List B) E) → with_front front (rest >>= λ ys. Ok (y ∷ ys)) ≡ with_front (front ++ y ∷ []) rest
regroup {B = B} front y (Ok ys) = ap (λ (zs : List B). Ok zs) (sym (append_assoc front (y ∷ []) ys))
regroup front y (Err e) = refl

-- the items from an index on
seen : {A D : Type 0} (f : A → D) (xs : List A) (x : A) (i : ℕ) → i < length xs → x ≡ get_or xs i x → map f (drop i xs) ≡ f x ∷ map f (drop (i + 1) xs)
seen {A = A} f xs x i lt here =
    rw (add-one, drop-cons xs i x lt) (ap (λ (y : A). f y ∷ map f (drop (suc i) xs)) (sym here))

-- before the first item
pub starts : {A D B E : Type 0} (f : A → D) (read : ℕ → D → Result B E) (xs : List A) (n : ℕ) → with_front [] (each_from read n (map f xs)) ≡ each_from read n (map f xs)
starts f read xs n = with_front-nil (each_from read n (map f xs))

-- one more item is read
pub goes_on : {A D B E : Type 0} (f : A → D) (read : ℕ → D → Result B E) (xs : List A) (x : A) (i n : ℕ) (front : List B) (y : B) (total : Result (List B) E) → i < length xs → x ≡ get_or xs i x → read n (f x) ≡ Ok y
    → with_front front (each_from read n (map f (drop i xs))) ≡ total → with_front (front ++ y ∷ []) (each_from read (n + 1) (map f (drop (i + 1) xs))) ≡ total
unfolding each_from
goes_on f read xs x i n front y total lt here reads so_far =
    let one : with_front front (each_from read n (map f (drop i xs))) ≡ with_front (front ++ y ∷ []) (each_from read (n + 1) (map f (drop (i + 1) xs))) = rw (seen f xs x i lt here, reads) (regroup front y (each_from read (n + 1) (map f (drop (i + 1) xs)))) in
    sym one ∙ so_far

-- an item is refused
pub stops : {A D B E : Type 0} (f : A → D) (read : ℕ → D → Result B E) (xs : List A) (x : A) (i n : ℕ) (front : List B) (e : E) (total : Result (List B) E) → i < length xs → x ≡ get_or xs i x → read n (f x) ≡ Err e
    → with_front front (each_from read n (map f (drop i xs))) ≡ total → total ≡ Err e
unfolding each_from
stops f read xs x i n front e total lt here reads so_far =
    let one : with_front front (each_from read n (map f (drop i xs))) ≡ Err e = rw (seen f xs x i lt here, reads) refl in
    sym so_far ∙ one

-- all items are read
pub is_done : {A D B E : Type 0} (f : A → D) (read : ℕ → D → Result B E) (xs : List A) (i n : ℕ) (front : List B) (total : Result (List B) E) → length xs ≤ i
    → with_front front (each_from read n (map f (drop i xs))) ≡ total → total ≡ Ok front
unfolding each_from
is_done {B = B} f read xs i n front total past so_far =
    let one : with_front front (each_from read n (map f (drop i xs))) ≡ Ok front = rw (drop_all i xs past) (ap (λ (ys : List B). Ok ys) (append-nil front)) in
    sym so_far ∙ one
