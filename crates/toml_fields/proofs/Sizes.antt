-- What a look at the values gives of the data.
use Rattle.std.proofs.Common.{ℕ, cond, ◌+◌, count_by, ◌≡◌, suc, ◌&&◌, Bool, List, [], ◌∷◌, length, map, String, Global, refl, sym, ap, ◌∙◌}
use Rattle.std.proofs.lemmas.List.{length-map}
use Rattle.std.proofs.lemmas.List.Sums.{sum_by-cons}
use Rattle.std.proofs.lemmas.Int.{to_z-of_z}
use Rattle.std.specs.List.{list_all}
use Rattle.toml.specs.declared.value.Value.{Value}
use Rattle.toml.specs.Data.{Data}
use Rattle.toml.specs.View.{view, members_view, items_view}
use Rattle.toml_fields.specs.Fields.{members_len}
use Rattle.toml_fields.specs.Lists.{item_list}

pub members_len_view : (es : List (String Global × Value)) → members_len (members_view es) ≡ length es
members_len_view [] = refl
members_len_view (e ∷ es) = ap suc (members_len_view es)

pub item_list_view : (vs : List Value) → item_list (items_view vs) ≡ map view vs
item_list_view [] = refl
item_list_view (v ∷ vs) = ap (λ (ds : List Data). view v ∷ ds) (item_list_view vs)

pub list_all_view : (test : Data → Bool) (vs : List Value) → list_all test (map view vs) ≡ list_all (λ v. test (view v)) vs
list_all_view test [] = refl
list_all_view test (v ∷ vs) = ap (λ (b : Bool). test (view v) && b) (list_all_view test vs)

pub count_by_map : {A B : Type 0} (test : B → Bool) (f : A → B) (xs : List A) → count_by test (map f xs) ≡ count_by (λ x. test (f x)) xs
count_by_map test f [] = refl
count_by_map {A = A} test f (x ∷ xs) =
    sum_by-cons (λ y. cond (test y) 1 0) (f x) (map f xs) ∙ ap (λ (n : ℕ). cond (test (f x)) 1 0 + n) (count_by_map test f xs) ∙ sym (sum_by-cons (λ (y : A). cond (test (f y)) 1 0) x xs)

pub ruleset sizes = (to_z-of_z, members_len_view, item_list_view, list_all_view, count_by_map, length-map)
