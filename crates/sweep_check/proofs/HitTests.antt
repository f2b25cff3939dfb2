-- Whether a named reason holds, by the hits that are looked for.
use Rattle.std.proofs.Common.{◌≡◌, ◌↔◌, ℕ, zero, suc, ◌<◌, Bool, IsTrue, List, [], ◌∷◌, length, get_or, refl, sym, subst, arith}
use Rattle.std.specs.Prelude.{Any}
use Rattle.std.specs.List.{HoldsAt, AllWithin}
use Rattle.std.specs.Bool.{MatchBool}
use Rattle.std.proofs.lemmas.Bool.{MatchBool-at_true}
use Rattle.std.proofs.lemmas.Iterator.Search.{true_from_Any}
use Rattle.brake_base.specs.declared.plane.Quarter.{Quarter}
use Rattle.brake_base.specs.declared.stroke.Back.{Back}
use Rattle.brake_base.specs.declared.reason.Reason.{Reason}
use Rattle.fold_boxes.specs.Pose.{PoseData}
use Rattle.job_setup.specs.Setup.{JobData}
use Rattle.job_setup.specs.Reasons.{IsReasonOf}
use Rattle.sweep_check.specs.declared.pieces.Piece.{Piece}
use Rattle.sweep_check.specs.Hits.{SomeHit}
use Rattle.sweep_check.proofs.Orders.{IsHitKind}

-- a test that says that some piece meets some item, of lists that are known
pub hit_alike : {X : Type 0} (number : X → ℕ) (P : Piece → X → Type 0) (pieces list : List Piece) (xs all : List X) (body : ℕ) (quarter : Quarter) (other : ℕ) (r : Bool) → pieces ≡ list → xs ≡ all
    → IsTrue r ↔ SomeHit number P pieces xs body quarter other → IsTrue r ↔ SomeHit number P list all body quarter other
hit_alike {X = X} number P pieces list xs all body quarter other r same alike test =
    subst (λ (ys : List X). IsTrue r ↔ SomeHit number P list ys body quarter other) alike (subst (λ (ps : List Piece). IsTrue r ↔ SomeHit number P ps xs body quarter other) same test)

-- the reason of a kind holds where some piece meets an item as it says
pub kind_holds : (job : JobData) (pose : PoseData) (back : Back) (stage k : ℕ) (make : ℕ → Quarter → ℕ → Reason) (Met : ℕ → Quarter → ℕ → Type 0) (body : ℕ) (quarter : Quarter) (other : ℕ) (reason : Reason) (r : Bool)
    → IsHitKind job pose back stage k make Met → reason ≡ make body quarter other → IsTrue r ↔ Met body quarter other → IsTrue r ↔ IsReasonOf job pose back stage reason
kind_holds job pose back stage k make Met body quarter other reason r is named test =
    subst (λ (s : Reason). IsTrue r ↔ IsReasonOf job pose back stage s) (sym named)
    ((λ holds. is.from body quarter other (test.0 holds)), (λ holds. test.1 (is.to body quarter other holds)))

element : {X : Type 0} (xs : List X) (k : ℕ) → k < length xs → (x : X) × ((d : X) → get_or xs k d ≡ x)
element [] k low = absurd (omega (arith, low))
element (x ∷ xs) zero low = (x, λ d. refl)
element (x ∷ xs) (suc k) low = let below : k < length xs = omega (arith, low) in element xs k below

from_place : {X : Type 0} (P : X → Type 0) (xs : List X) → (k : ℕ) × (k < length xs) × HoldsAt P xs k → Any P xs
from_place P xs found = let e = element xs found.0 found.1 in (found.0, e.0, found.1, e.1 e.0, subst P (e.1 e.0) (found.2 e.0))

-- what `any` answers
pub any_answer : {X : Type 0} (P : X → Type 0) (r : Bool) (xs : List X) → MatchBool r ((k : ℕ) × (k < length xs) × HoldsAt P xs k) (AllWithin (λ x. P x → ⊥) xs 0 (length xs)) → IsTrue r ↔ Any P xs
any_answer P r xs cases = ((λ passes. from_place P xs (MatchBool-at_true _ _ passes cases)), (λ some. true_from_Any P (λ x. P x → ⊥) r xs (λ x p n. n p) cases some.1 (some.0, some.2, some.3) some.4))
