-- What is kept in a list of records, of which each is true: nothing to begin with, and then one more.
use Rattle.std.proofs.Common.{◌≡◌, ◌⊎◌, inl, inr, ℕ, zero, suc, ◌<◌, List, [], ◌∷◌, ◌++◌, length, get_or, replicate, Option, Some, None, refl, sym, ap, subst, ◌∙◌, arith}
use Rattle.std.specs.Prelude.{All, unwrap_or, slice_set, slice_get, slice_index_or}
use Rattle.std.proofs.lemmas.Bool.{cases_lt}
use Rattle.std.proofs.lemmas.List.{get_or-set_same, get_or-set_other, get_or_push, length-set, length_push, length-replicate}
use Rattle.std.proofs.lemmas.List.Elements.{All-get_or}
use Rattle.std.proofs.lemmas.Option.{get_or_from_slice_get, slice_get_within, slice_get-get_or}

none_at : {X : Type 0} (n i : ℕ) → ◌≡◌ {A = Option X} (get_or (replicate n None) i None) None
none_at zero i = refl
none_at (suc n) zero = refl
none_at (suc n) (suc i) = none_at n i

pub as_long : {X : Type 0} (n : ℕ) (records : List (Option X)) → records ≡ replicate n None → length records ≡ n
as_long {X = X} n records are = subst (λ (xs : List (Option X)). length xs ≡ n) (sym are) (length-replicate n None)

-- each record of the list is true
abbrev pub AreTrue : {X : Type 0} → (X → Type 0) → List (Option X) → Type 0
AreTrue {X = X} Is records = (place : ℕ) (one : X) → slice_index_or records place None ≡ Some one → Is one

pub no_record : {X : Type 0} (Is : X → Type 0) (n : ℕ) (records : List (Option X)) → records ≡ replicate n None → AreTrue Is records
no_record {X = X} Is n records are place one here =
    let none : get_or records place None ≡ None = ap (λ (xs : List (Option X)). get_or xs place None) are ∙ none_at n place in
    absurd (cc)

after_put : {X : Type 0} (records : List (Option X)) (place other : ℕ) (one found : X) → place < length records → get_or (slice_set records place (Some one)) other None ≡ Some found → (one ≡ found) ⊎ (get_or records other None ≡ Some found)
after_put {X = X} records place other one found within here = elim (cases_lt other place) [
  | inl below ↦ inr (sym (get_or-set_other records place other (Some one) None (λ e. omega (arith, e, below))) ∙ here)
  | inr high ↦ elim (cases_lt place other) [
    | inl above ↦ inr (sym (get_or-set_other records place other (Some one) None (λ e. omega (arith, e, above))) ∙ here)
    | inr low ↦
        let same : other ≡ place = omega (arith, high, low) in
        let put = ap (λ (i : ℕ). get_or (slice_set records place (Some one)) i None) same ∙ get_or-set_same records place (Some one) None within in
        inl (ap (λ (o : Option X). unwrap_or o found) (sym put ∙ here))
  ]
]

pub record_more : {X : Type 0} (Is : X → Type 0) (records : List (Option X)) (place : ℕ) (one : X) → place < length records → Is one → AreTrue Is records → AreTrue Is (slice_set records place (Some one))
record_more Is records place one within is each other found here = elim (after_put records place other one found within here) [
  | inl same ↦ subst Is same is
  | inr kept ↦ each other found kept
]

-- what is true of all records is true of that at an index
pub record_at : {X : Type 0} (Is : X → Type 0) (records : List X) (index : ℕ) (one : X) → slice_get records index ≡ Some one → All Is records → Is one
record_at Is records index one here all = subst Is (get_or_from_slice_get records index one one here) (All-get_or Is records index one (slice_get_within records index one here) all)

-- the record that was put at an index, and that which was put behind all
module _ {X : Type 0} (records : List X) (index : ℕ) (one : X) where
  pub put_here : index < length records → slice_get (slice_set records index one) index ≡ Some one
  put_here within =
      let long = length-set records index one in
      slice_get-get_or (slice_set records index one) index one (omega (arith, long, within)) ∙ ap Some (get_or-set_same records index one one within)

  pub pushed_here : length records ≡ index → slice_get (records ++ one ∷ []) index ≡ Some one
  pushed_here is =
      let long = length_push records one in
      slice_get-get_or (records ++ one ∷ []) index one (omega (arith, long, is)) ∙ ap Some (get_or_push records one one index is)
