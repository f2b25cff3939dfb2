-- The first reason among kinds, from the first of each kind.
use Rattle.std.proofs.Common.{◌≡◌, inl, inr, ℕ, ◌+◌, ◌≤◌, List, [], ◌∷◌, Option, Some, None, refl, sym, ap, subst, ◌∙◌, arith}
use Rattle.std.specs.Prelude.{All, Any}
use Rattle.std.proofs.lemmas.Bool.{cases_lt}
use Rattle.brake_base.specs.declared.plane.Quarter.{Quarter}
use Rattle.brake_base.specs.declared.stroke.Back.{Back}
use Rattle.brake_base.specs.declared.reason.Reason.{Reason}
use Rattle.brake_base.specs.declared.reason.Reason.TheVariants.{Cover, Rest, Frame, Upper, Nose, Lower, SelfHit, NoGauge, Load}
use Rattle.brake_base.specs.Order.{IsBefore}
use Rattle.brake_base.specs.Reasons.{half_place, reason_place, ReasonIsBefore}
use Rattle.fold_boxes.specs.Pose.{PoseData}
use Rattle.job_setup.specs.Setup.{JobData}
use Rattle.job_setup.specs.Reasons.{IsReasonOf}
use Rattle.sweep_check.specs.declared.pieces.Piece.{Piece}
use Rattle.sweep_check.specs.declared.hits.Hit.{Hit}
use Rattle.sweep_check.specs.FirstReasons.{kind_place, IsFirstOf, IsFirstAmong}
use Rattle.sweep_check.specs.Hits.{hit_place, SomeHit, IsFirstHit}
use Rattle.sweep_check.proofs.Some.{all_any}

-- a place begins with that of the kind
starts : (reason : Reason) → (rest : List ℕ) × (reason_place reason ≡ kind_place reason ∷ rest)
starts Cover = (0 ∷ 0 ∷ 0 ∷ [], refl)
starts (Rest half) = (half_place half ∷ 0 ∷ 0 ∷ [], refl)
starts (Frame box) = (box ∷ 0 ∷ 0 ∷ [], refl)
starts (Upper box quarter index) = (hit_place box quarter index, refl)
starts (Nose box quarter stage) = (hit_place box quarter stage, refl)
starts (Lower box quarter index) = (hit_place box quarter index, refl)
starts (SelfHit box quarter other) = (hit_place box quarter other, refl)
starts Load = (0 ∷ 0 ∷ 0 ∷ [], refl)
starts NoGauge = (0 ∷ 0 ∷ 0 ∷ [], refl)

fronts : (a b : ℕ) (xs ys : List ℕ) → IsBefore (a ∷ xs) (b ∷ ys) → a ≤ b
fronts a b xs ys (inl less) = omega (arith, less)
fronts a b xs ys (inr rest) = let same = rest.0 in omega (arith, same)

-- a reason that stands before another is of no later kind
pub kinds_in_order : (a b : Reason) → ReasonIsBefore a b → kind_place a ≤ kind_place b
kinds_in_order a b before =
    let first = starts a in
    let second = starts b in
    fronts (kind_place a) (kind_place b) first.0 second.0 (subst (λ (xs : List ℕ). IsBefore xs (kind_place b ∷ second.0)) first.1 (subst (λ (xs : List ℕ). IsBefore (reason_place a) xs) second.1 before))

-- reasons with one front, by what follows it
pub rests_in_order : (k : ℕ) (xs ys : List ℕ) → IsBefore (k ∷ xs) (k ∷ ys) → IsBefore xs ys
rests_in_order k xs ys (inl less) = absurd (omega (arith, less))
rests_in_order k xs ys (inr rest) = rest.1

-- the first of some kinds is the first of more kinds that begin alike
pub lifted : (job : JobData) (pose : PoseData) (back : Back) (stage from middle to : ℕ) (reason : Reason) → middle ≤ to → IsFirstOf job pose back stage from middle reason → IsFirstOf job pose back stage from to reason
lifted job pose back stage from middle to reason more first = record { low = first.low; high = let high = first.high in omega (arith, high, more); holds = first.holds; first = first.first }

-- where none of some kinds holds, the first of those that follow is the first of all
pub joined : (job : JobData) (pose : PoseData) (back : Back) (stage from middle to : ℕ) (found : Option Reason) → from ≤ middle + 1 → IsFirstAmong job pose back stage from middle None → IsFirstAmong job pose back stage (middle + 1) to found
    → IsFirstAmong job pose back stage from to found
joined job pose back stage from middle to None wide none rest = λ reason low high holds.
    elim (cases_lt middle (kind_place reason)) [
      | inl after ↦ rest reason (omega (arith, after)) high holds
      | inr within ↦ none reason low within holds
    ]
joined job pose back stage from middle to (Some reason) wide none rest = record {
  low = let low = rest.low in omega (arith, low, wide);
  high = rest.high;
  holds = rest.holds;
  first = λ other low holds before.
      elim (cases_lt middle (kind_place other)) [
        | inl after ↦ rest.first other (omega (arith, after)) holds before
        | inr within ↦ none other low within holds
      ];
}

-- one kind of reasons that name a box, a quarter and a number
pub record IsHitKind (job : JobData) (pose : PoseData) (back : Back) (stage k : ℕ) (make : ℕ → Quarter → ℕ → Reason) (Met : ℕ → Quarter → ℕ → Type 0) : Type 0 where
  pub only : (reason : Reason) → kind_place reason ≡ k → (body : ℕ) × (quarter : Quarter) × (other : ℕ) × (reason ≡ make body quarter other)
  pub kind : (body : ℕ) (quarter : Quarter) (other : ℕ) → kind_place (make body quarter other) ≡ k
  pub place : (body : ℕ) (quarter : Quarter) (other : ℕ) → reason_place (make body quarter other) ≡ k ∷ hit_place body quarter other
  pub to : (body : ℕ) (quarter : Quarter) (other : ℕ) → IsReasonOf job pose back stage (make body quarter other) → Met body quarter other
  pub from : (body : ℕ) (quarter : Quarter) (other : ℕ) → Met body quarter other → IsReasonOf job pose back stage (make body quarter other)

-- no hit, no reason of the kind
pub none_of_hits : {X : Type 0} (number : X → ℕ) (P : Piece → X → Type 0) (pieces : List Piece) (xs : List X) (job : JobData) (pose : PoseData) (back : Back) (stage k : ℕ) (make : ℕ → Quarter → ℕ → Reason)
    → IsHitKind job pose back stage k make (SomeHit number P pieces xs) → IsFirstHit number P pieces xs None → IsFirstAmong job pose back stage k k None
none_of_hits {X = X} number P pieces xs job pose back stage k make is none reason low high holds =
    let named = is.only reason (omega (arith, low, high)) in
    all_any (λ piece. All (λ x. P piece x → ⊥) xs) (λ piece. ((piece.body ≡ named.0) × (piece.quarter ≡ named.1)) × Any (λ x. (number x ≡ named.2) × P piece x) xs) ⊥ pieces none
    (λ piece all some. all_any (λ x. P piece x → ⊥) (λ x. (number x ≡ named.2) × P piece x) ⊥ xs all (λ x free met. free met.1) some.1)
    (is.to named.0 named.1 named.2 (subst (IsReasonOf job pose back stage) named.3 holds))

-- the first hit is the first reason of the kind
pub first_of_hits : {X : Type 0} (number : X → ℕ) (P : Piece → X → Type 0) (pieces : List Piece) (xs : List X) (job : JobData) (pose : PoseData) (back : Back) (stage k : ℕ) (make : ℕ → Quarter → ℕ → Reason) (hit : Hit)
    → IsHitKind job pose back stage k make (SomeHit number P pieces xs) → IsFirstHit number P pieces xs (Some hit) → IsFirstOf job pose back stage k k (make hit.body hit.quarter hit.other)
first_of_hits {X = X} number P pieces xs job pose back stage k make hit is first = record {
  low = let same = is.kind hit.body hit.quarter hit.other in omega (arith, same);
  high = let same = is.kind hit.body hit.quarter hit.other in omega (arith, same);
  holds = is.from hit.body hit.quarter hit.other first.0;
  first = by_kind;
}
  where
    by_name : (other : Reason) → (body : ℕ) × (quarter : Quarter) × (number : ℕ) × (other ≡ make body quarter number) → IsReasonOf job pose back stage other → ReasonIsBefore other (make hit.body hit.quarter hit.other) → ⊥
    by_name other named holds before =
        let order : IsBefore (hit_place named.0 named.1 named.2) (hit_place hit.body hit.quarter hit.other) =
        rests_in_order k (hit_place named.0 named.1 named.2) (hit_place hit.body hit.quarter hit.other) (subst (λ (ys : List ℕ). IsBefore (k ∷ hit_place named.0 named.1 named.2) ys) (is.place hit.body hit.quarter hit.other)
        (subst (λ (ys : List ℕ). IsBefore ys (reason_place (make hit.body hit.quarter hit.other))) (ap reason_place named.3 ∙ is.place named.0 named.1 named.2) before)) in
        all_any (λ piece. All (λ x. P piece x → IsBefore (hit_place piece.body piece.quarter (number x)) (hit_place hit.body hit.quarter hit.other) → ⊥) xs)
        (λ piece. ((piece.body ≡ named.0) × (piece.quarter ≡ named.1)) × Any (λ x. (number x ≡ named.2) × P piece x) xs) ⊥ pieces first.1
        (λ piece all some. all_any (λ x. P piece x → IsBefore (hit_place piece.body piece.quarter (number x)) (hit_place hit.body hit.quarter hit.other) → ⊥) (λ x. (number x ≡ named.2) × P piece x) ⊥ xs all
        (λ x free met. free met.1 (moved piece.body piece.quarter (number x) named.0 named.1 named.2 some.0.0 some.0.1 met.0 order)) some.1)
        (is.to named.0 named.1 named.2 (subst (IsReasonOf job pose back stage) named.3 holds))
      where
        moved : (b : ℕ) (q : Quarter) (n : ℕ) (b' : ℕ) (q' : Quarter) (n' : ℕ) → b ≡ b' → q ≡ q' → n ≡ n' → IsBefore (hit_place b' q' n') (hit_place hit.body hit.quarter hit.other) → IsBefore (hit_place b q n) (hit_place hit.body hit.quarter hit.other)
        moved b q n b' q' n' body quarter same order = subst (λ (ys : List ℕ). IsBefore ys (hit_place hit.body hit.quarter hit.other)) (λ i. hit_place (sym body i) (sym quarter i) (sym same i)) order

    by_kind : (other : Reason) → k ≤ kind_place other → IsReasonOf job pose back stage other → ReasonIsBefore other (make hit.body hit.quarter hit.other) → ⊥
    by_kind other low holds before =
        let high = kinds_in_order other (make hit.body hit.quarter hit.other) before in
        let same = is.kind hit.body hit.quarter hit.other in
        by_name other (is.only other (omega (arith, low, high, same))) holds before

-- what is said of an answer that is known
pub among_seen : (job : JobData) (pose : PoseData) (back : Back) (stage from to : ℕ) (found one : Option Reason) → found ≡ one → IsFirstAmong job pose back stage from to found → IsFirstAmong job pose back stage from to one
among_seen job pose back stage from to found one is first = subst (λ (o : Option Reason). IsFirstAmong job pose back stage from to o) is first
