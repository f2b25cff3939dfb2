-- Lists in ascending order.
use Rattle.std.proofs.Common.{◌≡◌, ℕ, zero, suc, ◌+◌, ◌<◌, ◌≤◌, List, [], ◌∷◌, ◌++◌, map, length, get_or, Option, Some, None, arith}
use Rattle.std.specs.Prelude.{All, AllPairs, option_map, option_to_list, flat_map}
use Rattle.std.specs.List.{enumerate_from}
use Rattle.std.proofs.lemmas.List.Elements.{All-nil, All-cons, All-head, All-tail, All-append, All-weaker}
use Rattle.job_setup.proofs.BoxByBox.{all_flat_map}

pub pairs_nil : {X : Type 0} (R : X → X → Type 0) → AllPairs R []
pairs_nil R = λ i j d low inside. absurd (omega (arith, inside))

pub pairs_cons : {X : Type 0} (R : X → X → Type 0) (x : X) (xs : List X) → All (R x) xs → AllPairs R xs → AllPairs R (x ∷ xs)
pairs_cons {X = X} R x xs first rest = by_index
  where
    by_index : (i j : ℕ) (d : X) → i < j → j < length (x ∷ xs) → R (get_or (x ∷ xs) i d) (get_or (x ∷ xs) j d)
    by_index i zero d low inside = absurd (omega (arith, low))
    by_index zero (suc j) d low inside = first j d (omega (arith, inside))
    by_index (suc i) (suc j) d low inside = rest i j d (omega (arith, low)) (omega (arith, inside))

pub pairs_tail : {X : Type 0} (R : X → X → Type 0) (x : X) (xs : List X) → AllPairs R (x ∷ xs) → AllPairs R xs
pairs_tail R x xs all = λ i j d low inside. all (suc i) (suc j) d (omega (arith, low)) (omega (arith, inside))

pub pairs_head : {X : Type 0} (R : X → X → Type 0) (x : X) (xs : List X) → AllPairs R (x ∷ xs) → All (R x) xs
pairs_head R x xs all = λ k d inside. all zero (suc k) d (omega arith) (omega (arith, inside))

pub pairs_append : {X : Type 0} (R : X → X → Type 0) (xs ys : List X) → AllPairs R xs → AllPairs R ys → All (λ x. All (R x) ys) xs → AllPairs R (xs ++ ys)
pairs_append R [] ys left right across = right
pairs_append R (x ∷ xs) ys left right across =
    pairs_cons R x (xs ++ ys) (All-append (R x) xs ys (pairs_head R x xs left) (All-head (λ a. All (R a) ys) x xs across))
    (pairs_append R xs ys (pairs_tail R x xs left) right (All-tail (λ a. All (R a) ys) x xs across))

-- of lists that are joined: each ascends, and what comes of one item stands before what comes of a later one
pub pairs_flat : {X Y : Type 0} (S : X → X → Type 0) (R : Y → Y → Type 0) (f : X → List Y) (xs : List X) → ((x : X) → AllPairs R (f x)) → ((x y : X) → S x y → All (λ a. All (R a) (f y)) (f x)) → AllPairs S xs → AllPairs R (flat_map f xs)
pairs_flat S R f [] each across pairs = pairs_nil R
pairs_flat {X = X} {Y = Y} S R f (x ∷ xs) each across pairs =
    pairs_append R (f x) (flat_map f xs) (each x) (pairs_flat S R f xs each across (pairs_tail S x xs pairs)) (before (f x) (λ y after. across x y after) (pairs_head S x xs pairs))
  where
    before : (zs : List Y) → ((y : X) → S x y → All (λ a. All (R a) (f y)) zs) → All (S x) xs → All (λ a. All (R a) (flat_map f xs)) zs
    before zs later all = λ k d inside. all_flat_map (R (get_or zs k d)) f xs (All-weaker (S x) (λ y. All (R (get_or zs k d)) (f y)) (λ y after. later y after k d inside) xs all)

pub pairs_option : {X Y : Type 0} (R : Y → Y → Type 0) (f : X → Y) (o : Option X) → AllPairs R (option_to_list (option_map f o))
pairs_option R f None = pairs_nil R
pairs_option R f (Some x) = pairs_cons R (f x) [] (All-nil (R (f x))) (pairs_nil R)

-- items that are made of numbered ones, and have their numbers
numbers_from : {X Y : Type 0} (f : ℕ × X → Y) (number : Y → ℕ) (n m : ℕ) (xs : List X) → ((k : ℕ) (x : X) → number (f (k, x)) ≡ k) → m ≤ n → All (λ y. m ≤ number y) (map f (enumerate_from n xs))
numbers_from f number n m [] is low = All-nil (λ y. m ≤ number y)
numbers_from f number n m (x ∷ xs) is low = All-cons (λ y. m ≤ number y) (f (n, x)) (map f (enumerate_from (n + 1) xs)) (let same = is n x in omega (arith, same, low)) (numbers_from f number (n + 1) m xs is (omega (arith, low)))

pub pairs_numbered : {X Y : Type 0} (f : ℕ × X → Y) (number : Y → ℕ) (n : ℕ) (xs : List X) → ((k : ℕ) (x : X) → number (f (k, x)) ≡ k) → AllPairs (λ a b. number a < number b) (map f (enumerate_from n xs))
pairs_numbered f number n [] is = pairs_nil (λ a b. number a < number b)
pairs_numbered f number n (x ∷ xs) is =
    let rest = map f (enumerate_from (n + 1) xs) in
    pairs_cons (λ a b. number a < number b) (f (n, x)) rest
    (All-weaker (λ y. n + 1 ≤ number y) (λ y. number (f (n, x)) < number y) (λ y low. let same = is n x in omega (arith, same, low)) rest (numbers_from f number (n + 1) (n + 1) xs is (omega arith)))
    (pairs_numbered f number (n + 1) xs is)
