-- Lists of obstacles that are filled box by box.
use Rattle.std.proofs.Common.{◌≡◌, ℕ, suc, ◌+◌, ◌<◌, ◌≤◌, ℤ, pos, negsuc, ◌≤ℤ◌, List, [], ◌∷◌, ◌++◌, map, length, get_or, take, refl, sym, ap, subst, ◌∙◌, arith}
use Rattle.std.specs.Prelude.{All, int_div}
use Rattle.std.specs.List.{enumerate_from, flat_map}
use Rattle.std.proofs.lemmas.Int.{ints}
use Rattle.std.proofs.lemmas.List.{take_more, length-take, map_push, append_assoc}
use Rattle.std.proofs.lemmas.List.Elements.{All-nil, All-head, All-tail, All-append}
use Rattle.machine_file.specs.declared.machine.Fixed.{Fixed}
use Rattle.job_setup.specs.declared.setup.Stage.{Stage}
use Rattle.job_setup.specs.Setup.{StageData, stage_data}
use Rattle.job_setup.specs.Obstacles.{raised_box}

-- one item more is numbered by how many stand before it
pub enumerate_push : {X : Type 0} (n : ℕ) (xs : List X) (x : X) → enumerate_from n (xs ++ x ∷ []) ≡ enumerate_from n xs ++ (n + length xs, x) ∷ []
enumerate_push {X = X} n [] x = let same : n ≡ n + 0 = omega arith in ap (λ (k : ℕ). (k, x) ∷ []) same
enumerate_push {X = X} n (y ∷ xs) x =
    let same : (n + 1) + length xs ≡ n + suc (length xs) = omega arith in
    ap (λ (rest : List (ℕ × X)). (n, y) ∷ rest) (enumerate_push (n + 1) xs x ∙ ap (λ (k : ℕ). enumerate_from (n + 1) xs ++ (k, x) ∷ []) same)

-- a numbered item more in a list that holds those of the items so far
pub numbered_more : {X Y : Type 0} (f : ℕ × X → Y) (xs : List X) (i number : ℕ) (d : X) (y : Y) (before after : List Y) → i < length xs → number ≡ i → y ≡ f (number, get_or xs i d) → after ≡ before ++ y ∷ [] → before ≡ map f (enumerate_from 0 (take i xs))
    → after ≡ map f (enumerate_from 0 (take (i + 1) xs))
numbered_more {X = X} {Y = Y} f xs i number d y before after inside same is pushed so_far =
    let long : length (take i xs) ≡ i = omega (arith, length-take i xs) in
    let x = get_or xs i d in
    let numbered : enumerate_from 0 (take (i + 1) xs) ≡ enumerate_from 0 (take i xs) ++ (number, x) ∷ [] =
    ap (enumerate_from 0) (take_more xs i d inside) ∙ enumerate_push 0 (take i xs) x ∙ ap (λ (k : ℕ). enumerate_from 0 (take i xs) ++ (k, x) ∷ []) (omega (arith, long, same)) in
    pushed ∙ ap (λ (ys : List Y). ys ++ y ∷ []) so_far ∙ ap (λ (z : Y). map f (enumerate_from 0 (take i xs)) ++ z ∷ []) is ∙ sym (map_push f (enumerate_from 0 (take i xs)) (number, x)) ∙ ap (map f) (sym numbered)

-- an item more in a list that holds what f gives of the items so far, after others
pub mapped_more : {X Y : Type 0} (f : X → Y) (xs : List X) (i : ℕ) (d : X) (y : Y) (first before after : List Y) → i < length xs → y ≡ f (get_or xs i d) → after ≡ before ++ y ∷ [] → before ≡ first ++ map f (take i xs) → after ≡ first ++ map f (take (i + 1) xs)
mapped_more {X = X} {Y = Y} f xs i d y first before after inside is pushed so_far =
    pushed ∙ ap (λ (ys : List Y). ys ++ y ∷ []) so_far ∙ append_assoc first (map f (take i xs)) (y ∷ []) ∙ ap (λ (z : Y). first ++ (map f (take i xs) ++ z ∷ [])) is
    ∙ ap (λ (ys : List Y). first ++ ys) (sym (map_push f (take i xs) (get_or xs i d))) ∙ ap (λ (ys : List X). first ++ map f ys) (sym (take_more xs i d inside))

-- f of each item that g gives
pub flat_map_map : {A X Y : Type 0} (f : X → List Y) (g : A → X) (xs : List A) → flat_map f (map g xs) ≡ flat_map (λ a. f (g a)) xs
flat_map_map f g [] = refl
flat_map_map {Y = Y} f g (x ∷ xs) = ap (λ (ys : List Y). f (g x) ++ ys) (flat_map_map f g xs)

-- half of a die's opening
pub half_bounds : (v : ℤ) → pos 2 ≤ℤ v → v ≤ℤ pos 1000000 → (pos 0 ≤ℤ int_div v (pos 2)) × (int_div v (pos 2) ≤ℤ pos 500000)
half_bounds (pos n) low high = (omega (arith, ints), omega (arith, ints))
half_bounds (negsuc n) low high = absurd (omega (arith, ints))

-- the boxes of the machine, moved to the tools, and then those of the tools
pub group_is : (f : StageData → List Fixed) (first moved all fixed fixed' : List Fixed) (by height : ℤ) (stages : List Stage) (seen : List StageData) → all ≡ moved ++ flat_map (λ stage. f (stage_data stage)) stages → moved ≡ first ++ map (raised_box by) fixed → first ≡ [] → by ≡ height → fixed ≡ fixed'
    → map stage_data stages ≡ seen → all ≡ map (raised_box height) fixed' ++ flat_map f seen
group_is f first moved all fixed fixed' by height stages seen total raised none same listed staged =
    total
    ∙ ap (λ (xs : List Fixed). xs ++ flat_map (λ stage. f (stage_data stage)) stages) (raised ∙ ap (λ (xs : List Fixed). xs ++ map (raised_box by) fixed) none ∙ (λ i. map (raised_box (same i)) (listed i)))
    ∙ ap (λ (xs : List Fixed). map (raised_box height) fixed' ++ xs) (sym (flat_map_map f stage_data stages) ∙ ap (flat_map f) staged)

pub all_flat_map : {X Y : Type 0} (P : Y → Type 0) (f : X → List Y) (xs : List X) → All (λ x. All P (f x)) xs → All P (flat_map f xs)
all_flat_map P f [] all = All-nil P
all_flat_map P f (x ∷ xs) all = All-append P (f x) (flat_map f xs) (All-head (λ x. All P (f x)) x xs all) (all_flat_map P f xs (All-tail (λ x. All P (f x)) x xs all))
