-- The first legal pair, from those with one left face.
use Rattle.std.proofs.Common.{◌≡◌, ◌↔◌, ◌∙◌, refl, inl, inr, subst, ℕ, ◌<◌, ◌≤◌, ◌+◌, Option, Some, None, arith}
use Rattle.std.specs.Prelude.{IsNone}
use Rattle.std.proofs.Math.Nat.{eq-or-lt_of_le}
use Rattle.brake_base.specs.declared.stroke.Gauge.{Gauge}
use Rattle.fold_boxes.specs.Pose.{PoseData}
use Rattle.job_setup.specs.Setup.{JobData}
use Rattle.job_setup.specs.LegalGauge.{IsLegalPair, LacksGauge}
use Rattle.gauge_rules.specs.Pairs.{HasFlatFace, IsFirstLegal, IsFirstWith}

-- the left face of a legal pair lies in the sheet's plane
pub legal_flat : (job : JobData) (pose : PoseData) (gauge : Gauge) → IsLegalPair job pose gauge → HasFlatFace job pose gauge.left_face
legal_flat job pose gauge legal = (legal.0, legal.1, legal.2, legal.3, legal.4.0)

pub more_right : (job : JobData) (pose : PoseData) (left k : ℕ) → ((other : Gauge) → other.left_face ≡ left → other.right_face < k → IsLegalPair job pose other → ⊥)
    → (IsLegalPair job pose (record { left_face = left; right_face = k }) → ⊥) → (other : Gauge) → other.left_face ≡ left → other.right_face < k + 1 → IsLegalPair job pose other → ⊥
more_right job pose left k before not other same below legal =
    let at_most : other.right_face ≤ k = omega (arith, below) in
    elim (eq-or-lt_of_le at_most) [
      | inl e ↦ not (subst (λ (g : Gauge). IsLegalPair job pose g) (λ i. record { left_face = same i; right_face = e i }) legal)
      | inr lt ↦ before other same lt legal
    ]

pub more_left : (job : JobData) (pose : PoseData) (k : ℕ) → ((other : Gauge) → other.left_face < k → IsLegalPair job pose other → ⊥) → IsFirstWith job pose k None → (other : Gauge) → other.left_face < k + 1 → IsLegalPair job pose other → ⊥
more_left job pose k before none other below legal =
    let at_most : other.left_face ≤ k = omega (arith, below) in
    elim (eq-or-lt_of_le at_most) [ inl e ↦ none other e legal | inr lt ↦ before other lt legal ]

pub first_of : (job : JobData) (pose : PoseData) (k : ℕ) (gauge : Gauge) → ((other : Gauge) → other.left_face < k → IsLegalPair job pose other → ⊥) → IsFirstWith job pose k (Some gauge) → IsFirstLegal job pose (Some gauge)
first_of job pose k gauge before first = (
  first.1,
  λ other earlier legal. elim earlier [
    | inl lt ↦ before other (omega (arith, lt, first.0)) legal
    | inr rest ↦ elim rest.1 [ inl lt ↦ first.2 other (rest.0 ∙ first.0) lt legal | inr never ↦ absurd never.1 ]
  ],
)

-- there is no first legal pair exactly where none is legal
pub none_lacks : (job : JobData) (pose : PoseData) (found : Option Gauge) → IsFirstLegal job pose found → IsNone found ↔ LacksGauge job pose
none_lacks job pose None first = (λ none. first, λ lacks. refl)
none_lacks job pose (Some gauge) first = (λ none. absurd cc, λ lacks. absurd (lacks gauge first.0))
