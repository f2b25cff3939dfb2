-- The first nogood that refutes an action, by a look at each in turn.
use Rattle.std.proofs.Common.{◌≡◌, ℕ, ◌+◌, ◌<◌, ◌≤◌, List, length, get_or, sym, ◌∙◌, subst, arith, inl, inr}
use Rattle.std.specs.Prelude.{Some, slice_get}
use Rattle.std.proofs.lemmas.Bool.{cases_lt}
use Rattle.std.proofs.lemmas.Option.{slice_get-get_or, slice_get_within, get_or_from_slice_get}
use Rattle.brake_base.specs.declared.mask.Mask.{Mask}
use Rattle.brake_base.specs.declared.stroke.Action.{Action}
use Rattle.nogood_book.specs.declared.nogood.Nogood.{Nogood}
use Rattle.handling_cost.specs.StepCost.{IsActionAt}
use Rattle.nogood_book.specs.Nogood.{IsSetOf, key_at}
use Rattle.nogood_book.specs.Book.{Refutes, IsRefuted, IsOpposed, IsFirstRefuting, IsNogoodLaw, BookData}

-- none of the nogoods of the first numbers refutes the action
abbrev pub NoneSoFar : List Nogood → Mask → Action → ℕ → Type 0
NoneSoFar book mask action n = (k : ℕ) (nogood : Nogood) → k < n → slice_get book k ≡ Some nogood → ¬ Refutes nogood mask action

pub none_yet : (book : List Nogood) (mask : Mask) (action : Action) → NoneSoFar book mask action 0
none_yet book mask action k nogood low at = absurd (omega arith)

same_at : (book : List Nogood) (k n : ℕ) (one other : Nogood) → k ≡ n → slice_get book k ≡ Some one → get_or book n other ≡ other → one ≡ other
same_at book k n one other same at is =
    sym (get_or_from_slice_get book k one other at) ∙ subst (λ (m : ℕ). get_or book m other ≡ other) (sym same) is

-- one number more
pub none_next : (book : List Nogood) (mask : Mask) (action : Action) (n : ℕ) (other : Nogood) → NoneSoFar book mask action n → get_or book n other ≡ other → ¬ Refutes other mask action → NoneSoFar book mask action (n + 1)
none_next book mask action n other none is not_this k nogood low at = elim (cases_lt k n) [
  | inl below ↦ none k nogood below at
  | inr last ↦ λ refutes. not_this (subst (λ (one : Nogood). Refutes one mask action) (same_at book k n nogood other (omega arith) at is) refutes)
]

pub first_found : (book : List Nogood) (mask : Mask) (action : Action) (n : ℕ) (other : Nogood) → NoneSoFar book mask action n → n < length book → get_or book n other ≡ other → Refutes other mask action → IsFirstRefuting book mask action n
first_found book mask action n other none within is refutes = record {
  refutes = (other, slice_get-get_or book n other within ∙ (λ i. Some (is i)), refutes);
  first = none;
}

pub none_found : (book : List Nogood) (mask : Mask) (action : Action) (n : ℕ) → length book ≤ n → NoneSoFar book mask action n → ¬ IsRefuted book mask action
none_found book mask action n all none (k, nogood, within, is, refutes) = none k nogood (omega arith) (slice_get-get_or book k nogood within ∙ (λ i. Some (is i))) refutes

pub first_refutes : (book : List Nogood) (mask : Mask) (action : Action) (n : ℕ) → IsFirstRefuting book mask action n → IsRefuted book mask action
first_refutes book mask action n first =
    let found = first.refutes in
    (n, found.0, slice_get_within book n found.0 found.1, get_or_from_slice_get book n found.0 found.0 found.1, found.2)

-- the law, by what is found
pub some_opposed : (book : BookData) → IsNogoodLaw book.job book.nogoods → (mask : Mask) (action : Action) (n : ℕ) → IsFirstRefuting book.nogoods mask action n → IsSetOf book.job mask → IsActionAt book.job (key_at mask) action → IsOpposed book.job mask action
some_opposed book law mask action n first set at = (law.complete mask action set at).1 (first_refutes book.nogoods mask action n first)

pub none_opposed : (book : BookData) → IsNogoodLaw book.job book.nogoods → (mask : Mask) (action : Action) → ¬ IsRefuted book.nogoods mask action → IsSetOf book.job mask → IsActionAt book.job (key_at mask) action → ¬ IsOpposed book.job mask action
none_opposed book law mask action none set at opposed = none ((law.complete mask action set at).0 opposed)
