-- What a look at the code's lists gives of their data.
use Rattle.std.proofs.Common.{◌≡◌, ℕ, ℤ, pos, suc, ◌+◌, ◌<◌, ◌≤◌, Bool, true, false, cond, Some, List, [], ◌∷◌, map, length, get_or, drop, Result, Err, refl, sym, ap, subst, ◌∙◌, add-one, drop-cons, arith}
use Rattle.std.specs.Prelude.{Option, None, All, find, option_map, sum_by, take}
use Rattle.std.proofs.lemmas.List.{take_all}
use Rattle.std.proofs.lemmas.List.Sums.{sum_by_more}
use Rattle.std.proofs.lemmas.List.{length-map, take-map, get_or-map}
use Rattle.std.proofs.lemmas.Int.{to_z-of_z}
use Rattle.toml_fields.specs.Results.{each_from}
use Rattle.toml_fields.proofs.Sizes.{count_by_map}
use Rattle.toml_fields.proofs.Each.{with_front}
use Rattle.part_file.proofs.RowData.{position_map}
use Rattle.unfolder.proofs.Finding.{find-map}
use Rattle.job_setup.specs.declared.setup.Stage.{Stage}
use Rattle.job_setup.specs.Setup.{StageData, stage_data}
use Rattle.job_setup.specs.Places.{at_stage}

pub ruleset seen = (to_z-of_z, length-map, take-map, count_by_map, position_map, find-map)

-- the items from an index on
items_from : {A D : Type 0} (f : A → D) (xs : List A) (x : A) (i : ℕ) → i < length xs → x ≡ get_or xs i x → map f (drop i xs) ≡ f x ∷ map f (drop (i + 1) xs)
items_from {A = A} f xs x i lt here =
    rw (add-one, drop-cons xs i x lt) (ap (λ (y : A). f y ∷ map f (drop (suc i) xs)) (sym here))

-- of items that are read in turn, one is refused
pub stops : {A D B E : Type 0} (f : A → D) (read : ℕ → D → Result B E) (xs : List A) (x : A) (i n : ℕ) (front : List B) (e : E) (whole : Result (List B) E) → i < length xs → x ≡ get_or xs i x → read n (f x) ≡ Err e
    → with_front front (each_from read n (map f (drop i xs))) ≡ whole → whole ≡ Err e
unfolding each_from
stops f read xs x i n front e whole lt here reads so_far =
    let one : with_front front (each_from read n (map f (drop i xs))) ≡ Err e = rw (items_from f xs x i lt here, reads) refl in
    sym so_far ∙ one

-- what holds of each item holds of the one that is found
pub found_has : {X : Type 0} (P : X → Type 0) (test : X → Bool) (xs : List X) (x : X) → All P xs → find test xs ≡ Some x → P x
found_has P test [] x all found = absurd (cc)
found_has {X = X} P test (y ∷ ys) x all found =
    by_test (test y) found (λ later. found_has P test ys x (λ k d within. all (suc k) d (omega arith)) later)
  where
    by_test : (t : Bool) → cond t (Some y) (find test ys) ≡ Some x → (find test ys ≡ Some x → P x) → P x
    by_test true is later = let same : y ≡ x = cc in subst P same (all 0 y (omega arith))
    by_test false is later = later is

-- two numbers of the stage of an index, as the code reads them
pub stage_at : (numbers : StageData → ℤ × ℤ) (stages : List Stage) (i : ℕ) (stage : Stage) → i < length stages → stage ≡ get_or stages i stage → at_stage numbers (map stage_data stages) i ≡ numbers (stage_data stage)
stage_at numbers stages i stage within here =
    get_or-map numbers (map stage_data stages) i (stage_data stage) (pos 0, pos 0) (rw length-map within) ∙ ap numbers (get_or-map stage_data stages i stage (stage_data stage) within ∙ ap stage_data (sym here))

-- the sum over the items so far, and over all of them
pub sum_more : {A D : Type 0} (f : D → ℕ) (g : A → D) (xs : List A) (i : ℕ) (x : A) → i < length xs → x ≡ get_or xs i x → sum_by f (take (i + 1) (map g xs)) ≡ sum_by f (take i (map g xs)) + f (g x)
sum_more {D = D} f g xs i x within here =
    sum_by_more f (map g xs) i (g x) (rw length-map within)
    ∙ ap (λ (y : D). sum_by f (take i (map g xs)) + f y) (get_or-map g xs i x (g x) within ∙ ap g (sym here))

pub sum_all : {A D : Type 0} (f : D → ℕ) (g : A → D) (xs : List A) (i : ℕ) → length xs ≤ i → sum_by f (take i (map g xs)) ≡ sum_by f (map g xs)
sum_all f g xs i past = ap (sum_by f) (take_all i (map g xs) (rw length-map past))

-- what is found in a list, seen by a view
pub found_data : {A B D : Type 0} (v : A → B) (g : B → D) (test : D → Bool) (r : Option A) (xs : List B) → option_map v r ≡ find (λ x. test (g x)) xs → option_map (λ a. g (v a)) r ≡ find test (map g xs)
found_data v g test None xs is = sym (find-map test g xs ∙ ap (option_map g) (sym is))
found_data v g test (Some a) xs is = sym (find-map test g xs ∙ ap (option_map g) (sym is))

-- what holds of all data holds of those of the item at an index
pub all_at : {A D : Type 0} (P : D → Type 0) (g : A → D) (xs : List A) (i : ℕ) (x : A) → All P (map g xs) → i < length xs → x ≡ get_or xs i x → P (g x)
all_at P g xs i x all within here = subst P (get_or-map g xs i x (g x) within ∙ ap g (sym here)) (all i (g x) (rw length-map within))

-- what holds of all data holds of the data of each item
pub all_of_map : {A D : Type 0} (P : D → Type 0) (g : A → D) (xs : List A) → All P (map g xs) → All (λ x. P (g x)) xs
all_of_map P g xs all k d within = subst P (get_or-map g xs k d (g d) within) (all k (g d) (rw length-map within))
