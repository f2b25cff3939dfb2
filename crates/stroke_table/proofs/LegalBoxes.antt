-- The boxes of a legal pair, among boxes in ascending order of their numbers.
use Rattle.std.proofs.Common.{◌≡◌, ◌⊎◌, ◌∙◌, inl, inr, ℕ, ◌<◌, ◌≤◌, List, length, get_or, Option, Some, None, refl, sym, ap, subst, arith}
use Rattle.std.proofs.lemmas.Bool.{cases_lt}
use Rattle.std.proofs.lemmas.List.{get_or_default}
use Rattle.std.specs.Prelude.{All, Any, AllPairs, ◌↔◌}
use Rattle.brake_base.specs.declared.stroke.Gauge.{Gauge}
use Rattle.fold_boxes.specs.declared.posed_part.PoseBox.{PoseBox}
use Rattle.fold_boxes.specs.Pose.{PoseData}
use Rattle.fold_boxes.specs.Posing.{IsNearPoseBox}
use Rattle.gauge_rules.specs.Pairs.{AreLegalBoxes, IsFirstLegal, IsFirstWith}
use Rattle.job_setup.specs.Setup.{JobData}
use Rattle.job_setup.specs.LegalGauge.{IsFlatFace, IsLeftOfPair, IsRightOf, IsLegalPair}
use Rattle.sweep_check.specs.Hits.{IsLeastNumber}
use Rattle.stroke_table.specs.Gauging.{MakesPair, IsAtTop, MayBeLeft, MayBeRight}

abbrev pub Ascend : List PoseBox → Type 0
Ascend boxes = AllPairs (λ a b. a.id < b.id) boxes

abbrev pub IsAmong : List PoseBox → PoseBox → Type 0
IsAmong boxes box = Any (λ body. body ≡ box) boxes

pub among_at : (boxes : List PoseBox) (i : ℕ) (d : PoseBox) → i < length boxes → IsAmong boxes (get_or boxes i d)
among_at boxes i d inside = (i, get_or boxes i d, inside, get_or_default boxes i (get_or boxes i d) d inside, refl)

-- where numbers ascend, boxes of one number are one
same_at : (boxes : List PoseBox) → Ascend boxes → (i j : ℕ) (x y : PoseBox) → i < length boxes → j < length boxes → get_or boxes i x ≡ x → get_or boxes j y ≡ y → x.id ≡ y.id → x ≡ y
same_at boxes ascend i j x y in_i in_j at_i at_j same = by_order (cases_lt i j) (cases_lt j i)
  where
    by_order : (i < j) ⊎ (j ≤ i) → (j < i) ⊎ (i ≤ j) → x ≡ y
    by_order (inl less) other =
        let order = ascend i j x less in_j in
        let left = ap (λ (b : PoseBox). b.id) at_i in
        let right = ap (λ (b : PoseBox). b.id) (get_or_default boxes j x y in_j ∙ at_j) in
        absurd (omega (arith, order, left, right, same))
    by_order (inr high) (inl less) =
        let order = ascend j i x less in_i in
        let left = ap (λ (b : PoseBox). b.id) at_i in
        let right = ap (λ (b : PoseBox). b.id) (get_or_default boxes j x y in_j ∙ at_j) in
        absurd (omega (arith, order, left, right, same))
    by_order (inr high) (inr low) =
        let one : i ≡ j = omega (arith, high, low) in
        sym at_i ∙ ap (λ (k : ℕ). get_or boxes k x) one ∙ get_or_default boxes j x y in_j ∙ at_j

pub one_box : (boxes : List PoseBox) → Ascend boxes → (x y : PoseBox) → IsAmong boxes x → IsAmong boxes y → x.id ≡ y.id → x ≡ y
one_box boxes ascend x y first second same =
    sym first.4 ∙ same_at boxes ascend first.0 second.0 first.1 second.1 first.2 second.2 first.3 second.3 (ap (λ (b : PoseBox). b.id) first.4 ∙ same ∙ sym (ap (λ (b : PoseBox). b.id) second.4)) ∙ second.4

pub near_among : (boxes : List PoseBox) → All IsNearPoseBox boxes → (box : PoseBox) → IsAmong boxes box → IsNearPoseBox box
near_among boxes near box among = subst IsNearPoseBox (among.3 ∙ among.4) (near among.0 among.1 among.2)

-- some pair with this left box is legal
abbrev pub HasPair : JobData → PoseData → PoseBox → Type 0
HasPair job pose left = (gauge : Gauge) × (gauge.left_face ≡ left.id) × IsLegalPair job pose gauge

module _ (job : JobData) (pose : PoseData) (boxes : List PoseBox) (same : boxes ≡ pose.boxes) where
  left_of : (gauge : Gauge) → IsLegalPair job pose gauge → Any (IsLeftOfPair job pose gauge) boxes
  left_of gauge legal = subst (Any (IsLeftOfPair job pose gauge)) (sym same) legal

  right_of : (gauge : Gauge) (left : PoseBox) → IsLeftOfPair job pose gauge left → Any (IsRightOf job pose gauge left) boxes
  right_of gauge left of = subst (Any (IsRightOf job pose gauge left)) (sym same) of.1

  at_top : (face : ℕ) (box : PoseBox) → IsFlatFace job.part.thickness pose face box → IsAtTop box
  at_top face box flat = record { half = flat.half; top = flat.fills.high }

  -- the left box of a legal pair
  pub left_may_be : Ascend boxes → (left : PoseBox) → IsAmong boxes left → (gauge : Gauge) → gauge.left_face ≡ left.id → IsLegalPair job pose gauge → MayBeLeft job.setup.gauge left
  left_may_be ascend left among gauge is legal =
      let some = left_of gauge legal in
      let other = right_of gauge some.1 some.4 in
      let is_left = one_box boxes ascend some.1 left (some.0, some.1, some.2, some.3, refl) among (some.4.0.number ∙ is) in
      subst (MayBeLeft job.setup.gauge) is_left (record { top = at_top gauge.left_face some.1 some.4.0; near = other.4.1.reach.edge.near })

  -- and the right one
  pub right_may_be : Ascend boxes → (left right : PoseBox) → IsAmong boxes left → IsAmong boxes right → MakesPair job pose left right → MayBeRight left right
  right_may_be ascend left right among_left among_right legal =
      let gauge : Gauge = record { left_face = left.id; right_face = right.id } in
      let some = left_of gauge legal in
      let other = right_of gauge some.1 some.4 in
      let is_left = one_box boxes ascend some.1 left (some.0, some.1, some.2, some.3, refl) among_left some.4.0.number in
      let is_right = one_box boxes ascend other.1 right (other.0, other.1, other.2, other.3, refl) among_right other.4.0.number in
      record {
        top = subst IsAtTop is_right (at_top right.id other.1 other.4.0);
        edge = sym (ap (λ (b : PoseBox). b.body.hi.y) is_right) ∙ other.4.1.reach.edge.edge ∙ ap (λ (b : PoseBox). b.body.hi.y) is_left;
      }

  -- the boxes themselves make the pair
  pub legal_boxes : Ascend boxes → (left right : PoseBox) → IsAmong boxes left → IsAmong boxes right → AreLegalBoxes job pose left right ↔ MakesPair job pose left right
  legal_boxes ascend left right among_left among_right = (makes, made)
    where
      gauge : Gauge
      gauge = record { left_face = left.id; right_face = right.id }

      makes : AreLegalBoxes job pose left right → MakesPair job pose left right
      makes legal =
          let a = among_left in
          let b = among_right in
          let of_right = subst (Any (IsRightOf job pose gauge left)) same (b.0, b.1, b.2, b.3, subst (IsRightOf job pose gauge left) (sym b.4) legal.1) in
          subst (Any (IsLeftOfPair job pose gauge)) same (a.0, a.1, a.2, a.3, subst (IsLeftOfPair job pose gauge) (sym a.4) (legal.0, of_right))

      made : MakesPair job pose left right → AreLegalBoxes job pose left right
      made legal =
          let some = left_of gauge legal in
          let other = right_of gauge some.1 some.4 in
          let is_left = one_box boxes ascend some.1 left (some.0, some.1, some.2, some.3, refl) among_left some.4.0.number in
          let is_right = one_box boxes ascend other.1 right (other.0, other.1, other.2, other.3, refl) among_right other.4.0.number in
          (subst (IsFlatFace job.part.thickness pose left.id) is_left some.4.0, subst (λ (b : PoseBox). IsRightOf job pose gauge b right) is_left (subst (IsRightOf job pose gauge some.1) is_right other.4))

  -- the first legal pair with a left face
  pub first_with : (left : PoseBox) (found : ℕ) → IsLeastNumber (λ body. body.id) (MakesPair job pose left) boxes (Some found) → IsFirstWith job pose left.id (Some (record { left_face = left.id; right_face = found }))
  first_with left found least = (
    refl,
    subst (λ (n : ℕ). IsLegalPair job pose (record { left_face = left.id; right_face = n })) least.0.4.0 least.0.4.1,
    λ other is below legal.
        let some = left_of other legal in
        let right = right_of other some.1 some.4 in
        let number = right.4.0.number in
        let one : other ≡ record { left_face = left.id; right_face = right.1.id } = λ i. record { left_face = is i; right_face = sym number i } in
        let here : (get_or boxes right.0 right.1).id ≡ right.1.id = ap (λ (b : PoseBox). b.id) right.3 in
        least.1 right.0 right.1 right.2 (subst (MakesPair job pose left) (sym right.3) (subst (λ (g : Gauge). IsLegalPair job pose g) one legal)) (omega (arith, below, number, here)),
  )

  pub none_with : (left : PoseBox) → IsLeastNumber (λ body. body.id) (MakesPair job pose left) boxes None → IsFirstWith job pose left.id None
  none_with left none = λ other is legal.
      let some = left_of other legal in
      let right = right_of other some.1 some.4 in
      let one : other ≡ record { left_face = left.id; right_face = right.1.id } = λ i. record { left_face = is i; right_face = sym right.4.0.number i } in
      none right.0 right.1 right.2 (subst (MakesPair job pose left) (sym right.3) (subst (λ (g : Gauge). IsLegalPair job pose g) one legal))

  has_left : (gauge : Gauge) → IsLegalPair job pose gauge → Any (HasPair job pose) boxes
  has_left gauge legal = let some = left_of gauge legal in (some.0, some.1, some.2, some.3, (gauge, sym some.4.0.number, legal))

  pub some_pair : (left : PoseBox) (found : ℕ) → IsLeastNumber (λ body. body.id) (MakesPair job pose left) boxes (Some found) → HasPair job pose left
  some_pair left found least = (record { left_face = left.id; right_face = found }, refl, (first_with left found least).1)

  pub no_pair : (left : PoseBox) (found : Option ℕ) → found ≡ None → IsLeastNumber (λ body. body.id) (MakesPair job pose left) boxes found → HasPair job pose left → ⊥
  no_pair left found is least some = none_with left (subst (λ (o : Option ℕ). IsLeastNumber (λ body. body.id) (MakesPair job pose left) boxes o) is least) some.0 some.1 some.2

  pub none_legal : All (λ left. HasPair job pose left → ⊥) boxes → IsFirstLegal job pose None
  none_legal none = λ gauge legal. let some = has_left gauge legal in none some.0 some.1 some.2 (subst (HasPair job pose) (sym some.3) some.4)

  pub first_legal : (left : PoseBox) (found : ℕ) → IsLeastNumber (λ body. body.id) (MakesPair job pose left) boxes (Some found) → All (λ other. HasPair job pose other → other.id < left.id → ⊥) boxes
      → IsFirstLegal job pose (Some (record { left_face = left.id; right_face = found }))
  first_legal left found least before =
      let first = first_with left found least in (
        first.1,
        λ other earlier legal. elim earlier [
          | inl below ↦
              let some = left_of other legal in
              let number = some.4.0.number in
              let here : (get_or boxes some.0 some.1).id ≡ some.1.id = ap (λ (b : PoseBox). b.id) some.3 in
              before some.0 some.1 some.2 (subst (HasPair job pose) (sym some.3) (other, sym number, legal)) (omega (arith, below, number, here))
          | inr rest ↦ elim rest.1 [ inl below ↦ first.2 other rest.0 below legal | inr never ↦ absurd never.1 ]
        ],
      )
