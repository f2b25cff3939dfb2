-- Integers that are read in turn.
use Rattle.std.proofs.Common.{◌≡◌, ◌==◌, true, eq-eqb, ℕ, suc, ◌+◌, ◌<◌, ◌≤◌, ℤ, List, [], ◌∷◌, ◌++◌, map, length, get_or, drop, take, set, Option, Some, None, option_map, refl, sym, ap, ◌∙◌, append_assoc, add-one, drop-cons}
use Rattle.std.proofs.lemmas.List.{append-nil, drop_all}
use lib.Seq.{take_all, take-suc-set}
use Rattle.toml.specs.Data.{Data, as_integer}
use Rattle.toml_fields.specs.Lists.{prepend, integers, items_of, integers_of}

-- what was read, and then what the rest gives
abbrev pub with_integers : List ℤ → Option (List ℤ) → Option (List ℤ)
with_integers front rest = option_map (λ zs. front ++ zs) rest

regroup : (front : List ℤ) (n : ℤ) (rest : Option (List ℤ)) → with_integers front (prepend (Some n) rest) ≡ with_integers (front ++ n ∷ []) rest
regroup front n (Some ns) = ap (λ (zs : List ℤ). Some zs) (sym (append_assoc front (n ∷ []) ns))
regroup front n None = refl

seen : {A : Type 0} (f : A → Data) (xs : List A) (x : A) (i : ℕ) → i < length xs → x ≡ get_or xs i x → map f (drop i xs) ≡ f x ∷ map f (drop (i + 1) xs)
seen {A = A} f xs x i lt here = rw (add-one, drop-cons xs i x lt) (ap (λ (y : A). f y ∷ map f (drop (suc i) xs)) (sym here))

-- one more integer is read, and written at its place
pub goes_on : {A : Type 0} (f : A → Data) (xs : List A) (x : A) (i : ℕ) (slots : List ℤ) (n : ℤ) (total : Option (List ℤ)) → i < length xs → i < length slots → x ≡ get_or xs i x → as_integer (f x) ≡ Some n
    → with_integers (take i slots) (integers (map f (drop i xs))) ≡ total → with_integers (take (i + 1) (set slots i n)) (integers (map f (drop (i + 1) xs))) ≡ total
goes_on f xs x i slots n total lt room here reads so_far =
    let one : with_integers (take i slots) (integers (map f (drop i xs))) ≡ with_integers (take i slots ++ n ∷ []) (integers (map f (drop (i + 1) xs))) = rw (seen f xs x i lt here, reads) (regroup (take i slots) n (integers (map f (drop (i + 1) xs)))) in
    let taken : take (i + 1) (set slots i n) ≡ take i slots ++ n ∷ [] = rw add-one (take-suc-set slots i n room) in
    rw taken (sym one ∙ so_far)

-- an item is no integer
pub stops : {A : Type 0} (f : A → Data) (xs : List A) (x : A) (i : ℕ) (front : List ℤ) (total : Option (List ℤ)) → i < length xs → x ≡ get_or xs i x → as_integer (f x) ≡ None
    → with_integers front (integers (map f (drop i xs))) ≡ total → total ≡ None
stops f xs x i front total lt here reads so_far =
    let one : with_integers front (integers (map f (drop i xs))) ≡ None = rw (seen f xs x i lt here, reads) refl in
    sym so_far ∙ one

-- all items are read
pub is_done : {A : Type 0} (f : A → Data) (xs : List A) (i : ℕ) (slots : List ℤ) (total : Option (List ℤ)) → length xs ≤ i → length slots ≤ i
    → with_integers (take i slots) (integers (map f (drop i xs))) ≡ total → total ≡ Some slots
is_done f xs i slots total past full so_far =
    let one : with_integers (take i slots) (integers (map f (drop i xs))) ≡ Some slots = rw (drop_all i xs past, take_all i slots full) (ap (λ (zs : List ℤ). Some zs) (append-nil slots)) in
    sym so_far ∙ one

-- an array of as many items as are asked, all read
pub whole_row : (count : ℕ) (d : Data) (ds : List Data) (slots : List ℤ) → Some ds ≡ items_of d → length ds ≡ count → integers ds ≡ Some slots → Some slots ≡ integers_of count d
whole_row count d ds slots array same reads = let counted : (length ds == count) ≡ true = eq-eqb (length ds) count same in rw (← array, counted, reads)
