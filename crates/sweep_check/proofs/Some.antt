-- That some item of a list has a property, where the list is made of others.
use Rattle.std.proofs.Common.{◌≡◌, ◌⊎◌, inl, inr, ℕ, zero, suc, ◌+◌, ◌<◌, List, [], ◌∷◌, ◌++◌, length, get_or, Option, Some, None, refl, sym, subst, ◌∙◌, arith}
use Rattle.std.specs.Prelude.{All, Any, option_map, option_to_list, flat_map}
use Rattle.std.proofs.lemmas.List.{get_or_append_left, get_or-append-add, length-append}
use Rattle.std.proofs.lemmas.List.Elements.{All-nil, All-cons}

-- what holds of all holds of the one
pub all_any : {X : Type 0} (Q P : X → Type 0) (R : Type 0) (xs : List X) → All Q xs → ((x : X) → Q x → P x → R) → Any P xs → R
all_any Q P R xs all step some = step some.1 (subst Q some.3 (all some.0 some.1 some.2)) some.4

pub any_weaker : {X : Type 0} (P Q : X → Type 0) (xs : List X) → ((x : X) → P x → Q x) → Any P xs → Any Q xs
any_weaker P Q xs step some = (some.0, some.1, some.2, some.3, step some.1 some.4)

pub any_cons : {X : Type 0} (P : X → Type 0) (x : X) (xs : List X) → Any P xs → Any P (x ∷ xs)
any_cons P x xs some = let inside : suc some.0 < suc (length xs) = let low = some.2 in omega (arith, low) in (suc some.0, some.1, inside, some.3, some.4)

pub any_here : {X : Type 0} (P : X → Type 0) (x : X) (xs : List X) → P x → Any P (x ∷ xs)
any_here P x xs holds = let inside : zero < suc (length xs) = omega arith in (zero, x, inside, refl, holds)

pub any_append_left : {X : Type 0} (P : X → Type 0) (xs ys : List X) → Any P xs → Any P (xs ++ ys)
any_append_left P xs ys some =
    let inside : some.0 < length (xs ++ ys) = let low = some.2 in omega (arith, low, length-append xs ys) in
    (some.0, some.1, inside, get_or_append_left xs ys some.1 some.0 some.2 ∙ some.3, some.4)

pub any_append_right : {X : Type 0} (P : X → Type 0) (xs ys : List X) → Any P ys → Any P (xs ++ ys)
any_append_right P xs ys some =
    let inside : length xs + some.0 < length (xs ++ ys) = let low = some.2 in omega (arith, low, length-append xs ys) in
    (length xs + some.0, some.1, inside, get_or-append-add xs ys some.0 some.1 ∙ some.3, some.4)

-- the first item has the property, or one of the others
first_or : {X : Type 0} (P : X → Type 0) (x : X) (xs : List X) → Any P (x ∷ xs) → P x ⊎ Any P xs
first_or {X = X} P x xs some = by_index some.0 some.2 some.3
  where
    by_index : (k : ℕ) → k < length (x ∷ xs) → get_or (x ∷ xs) k some.1 ≡ some.1 → P x ⊎ Any P xs
    by_index zero low here = inl (subst P (sym here) some.4)
    by_index (suc k) low here = let inside : k < length xs = omega (arith, low) in inr (k, some.1, inside, here, some.4)

pub any_split : {X : Type 0} (P : X → Type 0) (xs ys : List X) → Any P (xs ++ ys) → Any P xs ⊎ Any P ys
any_split P [] ys some = inr some
any_split P (x ∷ xs) ys some =
    elim (first_or P x (xs ++ ys) some) [
      | inl here ↦ inl (any_here P x xs here)
      | inr later ↦ elim (any_split P xs ys later) [ inl left ↦ inl (any_cons P x xs left) | inr right ↦ inr right ]
    ]

pub any_flat_from : {X Y : Type 0} (P : Y → Type 0) (f : X → List Y) (xs : List X) → Any (λ x. Any P (f x)) xs → Any P (flat_map f xs)
any_flat_from P f [] some = absurd (let low = some.2 in omega (arith, low))
any_flat_from P f (x ∷ xs) some =
    elim (first_or (λ y. Any P (f y)) x xs some) [
      | inl here ↦ any_append_left P (f x) (flat_map f xs) here
      | inr later ↦ any_append_right P (f x) (flat_map f xs) (any_flat_from P f xs later)
    ]

pub any_flat_to : {X Y : Type 0} (P : Y → Type 0) (f : X → List Y) (xs : List X) → Any P (flat_map f xs) → Any (λ x. Any P (f x)) xs
any_flat_to P f [] some = absurd (let low = some.2 in omega (arith, low))
any_flat_to P f (x ∷ xs) some =
    elim (any_split P (f x) (flat_map f xs) some) [
      | inl here ↦ any_here (λ y. Any P (f y)) x xs here
      | inr later ↦ any_cons (λ y. Any P (f y)) x xs (any_flat_to P f xs later)
    ]

-- the item that an option gives
pub any_option_from : {X Y : Type 0} (P : Y → Type 0) (f : X → Y) (o : Option X) (x : X) → o ≡ Some x → P (f x) → Any P (option_to_list (option_map f o))
any_option_from {X = X} P f o x is holds = subst (λ (p : Option X). Any P (option_to_list (option_map f p))) (sym is) (any_here P (f x) [] holds)

pub any_option_to : {X Y : Type 0} (P : Y → Type 0) (f : X → Y) (o : Option X) → Any P (option_to_list (option_map f o)) → (x : X) × (o ≡ Some x) × P (f x)
any_option_to P f None some = absurd (let low = some.2 in omega (arith, low))
any_option_to P f (Some x) some = elim (first_or P (f x) [] some) [ inl here ↦ (x, refl, here) | inr later ↦ absurd (let low = later.2 in omega (arith, low)) ]

pub all_option : {X Y : Type 0} (P : Y → Type 0) (f : X → Y) (o : Option X) → ((x : X) → o ≡ Some x → P (f x)) → All P (option_to_list (option_map f o))
all_option P f None each = All-nil P
all_option P f (Some x) each = All-cons P (f x) [] (each x refl) (All-nil P)
