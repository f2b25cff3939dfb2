-- What `any` answers, and that some element has a property.
use Rattle.std.proofs.Common.{◌≡◌, ℕ, zero, suc, ◌<◌, List, [], ◌∷◌, length, Bool, true, refl, subst, arith}
use Rattle.std.specs.Prelude.{Any, slice_index_or}
use Rattle.std.specs.List.{HoldsAt, AllWithin}
use Rattle.std.specs.Bool.{MatchBool}
use Rattle.std.proofs.lemmas.Iterator.Search.{true_from_Any}
use Rattle.fold_boxes.specs.declared.posed_part.PoseBox.{PoseBox}

element : (xs : List PoseBox) (k : ℕ) → k < length xs → (x : PoseBox) × ((d : PoseBox) → slice_index_or xs k d ≡ x)
element [] k low = absurd (omega arith)
element (x ∷ xs) zero low = (x, λ d. refl)
element (x ∷ xs) (suc k) low = let below : k < length xs = omega arith in element xs k below

pub any_from : (P : PoseBox → Type 0) (xs : List PoseBox) → (k : ℕ) × (k < length xs) × HoldsAt P xs k → Any P xs
any_from P xs found = let e = element xs found.0 found.1 in (found.0, e.0, found.1, e.1 e.0, subst P (e.1 e.0) (found.2 e.0))

pub any_to : (P : PoseBox → Type 0) (r : Bool) (xs : List PoseBox) → MatchBool r ((k : ℕ) × (k < length xs) × HoldsAt P xs k) (AllWithin (λ x. P x → ⊥) xs 0 (length xs)) → Any P xs → r ≡ true
any_to P r xs cases some = true_from_Any P (λ x. P x → ⊥) r xs (λ x p n. n p) cases some.1 (some.0, some.2, some.3) some.4

pub second : (A B : Type 0) → A × B → B
second A B pair = pair.1
