-- Some pair of faces is legal in a pose, or none is.
use Rattle.std.proofs.Common.{◌⊎◌, inl, inr, ◌≡◌, ℕ, zero, suc, ◌<◌, ℤ, pos, negsuc, neg_ℤ, ◌-ℤ◌, ◌≤ℤ◌, ◌<ℤ◌, List, [], ◌∷◌, length, refl, sym, subst, ap, arith}
use Rattle.std.specs.Prelude.{All, Any, slice_index_or}
use Rattle.std.proofs.lemmas.Int.{ints}
use Rattle.std.proofs.lemmas.Bool.{cases_lt}
use Rattle.std.proofs.lemmas.List.Elements.{All-nil, All-cons, All-head, All-tail}
use Rattle.algebra.proofs.Order.{by_sign}
use Rattle.brake_base.specs.declared.space.V3.{V3}
use Rattle.brake_base.specs.declared.space.Box3.{Box3}
use Rattle.brake_base.specs.declared.stroke.Half.{Half}
use Rattle.brake_base.specs.declared.stroke.Half.TheVariants.{Back, Front}
use Rattle.brake_base.specs.declared.stroke.Gauge.{Gauge}
use Rattle.brake_base.specs.Vectors.{vector}
use Rattle.brake_base.specs.Turns.{Matrix, stay}
use Rattle.brake_base.specs.Boxes.{Overlap, ShareInterior}
use Rattle.brake_base.proofs.Vectors.{same_point}
use Rattle.brake_base.proofs.Overlaps.{overlap_is}
use Rattle.machine_file.specs.declared.machine.GaugeRule.{GaugeRule}
use Rattle.fold_boxes.specs.declared.posed_part.PoseBox.{PoseBox}
use Rattle.fold_boxes.specs.Pose.{PoseData}
use Rattle.job_setup.specs.Setup.{JobData}
use Rattle.job_setup.specs.LegalGauge.{IsLevel, far_edge, left_finger, right_finger, finger_box, IsFingerFree, IsLevelFace, FillsTheSheet, IsFlatFace, HasEdge, HasRoom, AreFree, IsPair, IsLegalPair, LacksGauge}

-- the fact holds, or it doesn't
abbrev Told : Type 0 → Type 0
Told A = A ⊎ (A → ⊥)

told_as : (A B : Type 0) → (A → B) → (B → A) → Told A → Told B
told_as A B to from (inl a) = inl (to a)
told_as A B to from (inr none) = inr (λ b. none (from b))

both : (A B : Type 0) → Told A → Told B → Told (A × B)
both A B (inl a) (inl b) = inl (a, b)
both A B (inl a) (inr none) = inr (λ pair. none pair.1)
both A B (inr none) b = inr (λ pair. none pair.0)

either : (A B : Type 0) → Told A → Told B → Told (A ⊎ B)
either A B (inl a) b = inl (inl a)
either A B (inr none) (inl b) = inl (inr b)
either A B (inr none) (inr never) = inr (λ one. elim one [ inl a ↦ none a | inr b ↦ never b ])

-- ---- numbers
le_told : (a b : ℤ) → Told (a ≤ℤ b)
le_told a b = elim (by_sign (b -ℤ a)) [ inl more ↦ inl (omega (arith, ints, more)) | inr less ↦ inr (λ within. omega (arith, ints, less, within)) ]

lt_told : (a b : ℤ) → Told (a <ℤ b)
lt_told a b = elim (by_sign (a -ℤ b)) [ inl more ↦ inr (λ within. omega (arith, ints, more, within)) | inr less ↦ inl (omega (arith, ints, less)) ]

eq_told : (a b : ℤ) → Told (a ≡ b)
eq_told a b =
    told_as ((a ≤ℤ b) × (b ≤ℤ a)) (a ≡ b) (λ order. omega (arith, ints, order.0, order.1)) (λ same. (omega (arith, ints, same), omega (arith, ints, same)))
    (both (a ≤ℤ b) (b ≤ℤ a) (le_told a b) (le_told b a))

below_told : (m n : ℕ) → Told (m < n)
below_told m n = elim (cases_lt m n) [ inl below ↦ inl below | inr above ↦ inr (λ below. omega (arith, above, below)) ]

-- ---- lists
module _ {X : Type 0} (P : X → Type 0) (each : (x : X) → Told (P x)) where
  any_more : (x : X) (xs : List X) → Told (P x) → Told (Any P xs) → Told (Any P (x ∷ xs))
  any_more x xs (inl here) later = inl (0, x, omega arith, refl, here)
  any_more x xs (inr not_here) (inl later) = inl (suc later.0, later.1, omega (arith, later.2), later.3, later.4)
  any_more x xs (inr not_here) (inr none) = inr (λ some. never some.0 some.1 some.2 some.3 some.4)
    where
      never : (k : ℕ) (y : X) → k < length (x ∷ xs) → slice_index_or (x ∷ xs) k y ≡ y → P y → ⊥
      never zero y low same here = not_here (subst P (sym same) here)
      never (suc k) y low same here = none (k, y, omega arith, same, here)

  any_told : (xs : List X) → Told (Any P xs)
  any_told [] = inr (λ some. let low : some.0 < 0 = some.2 in omega arith)
  any_told (x ∷ xs) = any_more x xs (each x) (any_told xs)

  all_told : (xs : List X) → Told (All P xs)
  all_told [] = inl (All-nil P)
  all_told (x ∷ xs) =
      told_as (P x × All P xs) (All P (x ∷ xs)) (λ parts. All-cons P x xs parts.0 parts.1) (λ all. (All-head P x xs all, All-tail P x xs all))
      (both (P x) (All P xs) (each x) (all_told xs))

-- ---- boxes and faces
point_told : (u v : V3) → Told (u ≡ v)
point_told u v =
    told_as ((u.x ≡ v.x) × ((u.y ≡ v.y) × (u.z ≡ v.z))) (u ≡ v) (λ same. same_point u v same.0 same.1.0 same.1.1)
    (λ same. (ap (λ (p : V3). p.x) same, (ap (λ (p : V3). p.y) same, ap (λ (p : V3). p.z) same)))
    (both _ _ (eq_told u.x v.x) (both _ _ (eq_told u.y v.y) (eq_told u.z v.z)))

level_told : (turn : Matrix) → Told (IsLevel turn)
level_told turn =
    either (turn.z ≡ vector (pos 0) (pos 0) (pos 1)) (turn.z ≡ vector (pos 0) (pos 0) (negsuc 0))
    (point_told turn.z (vector (pos 0) (pos 0) (pos 1))) (point_told turn.z (vector (pos 0) (pos 0) (negsuc 0)))

half_told : (half : Half) → Told (half ≡ Back)
half_told Back = inl refl
half_told Front = inr (λ same. cc)

apart_told : (a b : Box3) → Told (ShareInterior a b → ⊥)
apart_told a b = turned overlap_told
  where
    overlap_told : Told (Overlap a b)
    overlap_told = told_as _ (Overlap a b) (λ (h : _ × (_ × _)). record { x = h.0; y = h.1.0; z = h.1.1 }) (λ h. (h.x, (h.y, h.z))) (both _ _ (lt_told _ _) (both _ _ (lt_told _ _) (lt_told _ _)))

    turned : Told (Overlap a b) → Told (ShareInterior a b → ⊥)
    turned (inl meet) = inr (λ apart. apart ((overlap_is a b).0 meet))
    turned (inr none) = inl (λ shared. none ((overlap_is a b).1 shared))

module _ (rule : GaugeRule) (thickness : ℤ) (pose : PoseData) where
  free_told : (finger : Box3) → Told (IsFingerFree pose finger)
  free_told finger = all_told (λ (box : PoseBox). ShareInterior finger box.body → ⊥) (λ box. apart_told finger box.body) pose.boxes

  level_face_told : (face : ℕ) → Told (IsLevelFace pose face)
  level_face_told face =
      let turn = (slice_index_or pose.places face stay).turn in
      told_as ((face < length pose.places) × IsLevel turn) (IsLevelFace pose face) (λ parts. record { within = parts.0; level = parts.1 }) (λ is. (is.within, is.level))
      (both (face < length pose.places) (IsLevel turn) (below_told face (length pose.places)) (level_told turn))

  fills_told : (box : PoseBox) → Told (FillsTheSheet thickness box)
  fills_told box =
      told_as ((box.body.lo.z ≡ neg_ℤ thickness) × (box.body.hi.z ≡ pos 0)) (FillsTheSheet thickness box) (λ parts. record { low = parts.0; high = parts.1 }) (λ is. (is.low, is.high))
      (both (box.body.lo.z ≡ neg_ℤ thickness) (box.body.hi.z ≡ pos 0) (eq_told box.body.lo.z (neg_ℤ thickness)) (eq_told box.body.hi.z (pos 0)))

  flat_told : (box : PoseBox) → Told (IsFlatFace thickness pose box.id box)
  flat_told box =
      let A = box.half ≡ Back in
      let B = IsLevelFace pose box.id in
      let C = FillsTheSheet thickness box in
      told_as (A × (B × C)) (IsFlatFace thickness pose box.id box) (λ parts. record { number = refl; half = parts.0; level = parts.1.0; fills = parts.1.1 }) (λ is. (is.half, (is.level, is.fills)))
      (both A (B × C) (half_told box.half) (both B C (level_face_told box.id) (fills_told box)))

  module _ (left right : PoseBox) where
    edge_told : Told (HasEdge rule left right)
    edge_told =
        let A = far_edge right ≡ far_edge left in
        let B = rule.near ≤ℤ far_edge left in
        let C = far_edge left ≤ℤ rule.far in
        told_as (A × (B × C)) (HasEdge rule left right) (λ parts. record { edge = parts.0; near = parts.1.0; far = parts.1.1 }) (λ is. (is.edge, (is.near, is.far)))
        (both A (B × C) (eq_told (far_edge right) (far_edge left)) (both B C (le_told rule.near (far_edge left)) (le_told (far_edge left) rule.far)))

    room_told : Told (HasRoom rule left right)
    room_told =
        let A = (left_finger rule left).1 ≤ℤ left.body.hi.x in
        let B = right.body.lo.x ≤ℤ (right_finger rule right).0 in
        let gap = (right_finger rule right).0 -ℤ (left_finger rule left).1 in
        let C = rule.gap ≤ℤ gap in
        told_as (A × (B × C)) (HasRoom rule left right) (λ parts. record { left_end = parts.0; right_end = parts.1.0; gap = parts.1.1 }) (λ is. (is.left_end, (is.right_end, is.gap)))
        (both A (B × C) (le_told (left_finger rule left).1 left.body.hi.x) (both B C (le_told right.body.lo.x (right_finger rule right).0) (le_told rule.gap gap)))

    both_free_told : Told (AreFree rule thickness pose left right)
    both_free_told =
        let first = finger_box rule thickness (far_edge left) (left_finger rule left) in
        let second = finger_box rule thickness (far_edge left) (right_finger rule right) in
        told_as (IsFingerFree pose first × IsFingerFree pose second) (AreFree rule thickness pose left right) (λ parts. record { left_free = parts.0; right_free = parts.1 }) (λ is. (is.left_free, is.right_free))
        (both (IsFingerFree pose first) (IsFingerFree pose second) (free_told first) (free_told second))

    pair_told : Told (IsPair rule thickness pose left right)
    pair_told =
        let A = HasEdge rule left right in
        let B = HasRoom rule left right in
        let C = AreFree rule thickness pose left right in
        told_as (A × (B × C)) (IsPair rule thickness pose left right) (λ parts. record { reach = record { edge = parts.0; room = parts.1.0 }; free = parts.1.1 }) (λ is. (is.reach.edge, (is.reach.room, is.free)))
        (both A (B × C) edge_told (both B C room_told both_free_told))

-- ---- some gauge
module _ (job : JobData) (pose : PoseData) where
  abbrev flat : ℕ → PoseBox → Type 0
  flat = IsFlatFace job.part.thickness pose

  -- a right box with its own number, and one pair of both
  abbrev Fits : PoseBox → PoseBox → Type 0
  Fits left right = flat left.id left × (flat right.id right × IsPair job.setup.gauge job.part.thickness pose left right)

  fits_told : (left right : PoseBox) → Told (Fits left right)
  fits_told left right =
      both (flat left.id left) (flat right.id right × IsPair job.setup.gauge job.part.thickness pose left right) (flat_told job.setup.gauge job.part.thickness pose left)
      (both (flat right.id right) (IsPair job.setup.gauge job.part.thickness pose left right) (flat_told job.setup.gauge job.part.thickness pose right) (pair_told job.setup.gauge job.part.thickness pose left right))

  own_number : (face : ℕ) (box : PoseBox) → flat face box → flat box.id box
  own_number face box is = subst (λ (f : ℕ). flat f box) (sym is.number) is

  -- a pair of faces is legal, or none is
  pub gauge_told : ((gauge : Gauge) × IsLegalPair job pose gauge) ⊎ LacksGauge job pose
  gauge_told = by_boxes (any_told (λ left. Any (Fits left) pose.boxes) (λ left. any_told (Fits left) (fits_told left) pose.boxes) pose.boxes)
    where
      by_boxes : Told (Any (λ left. Any (Fits left) pose.boxes) pose.boxes) → ((gauge : Gauge) × IsLegalPair job pose gauge) ⊎ LacksGauge job pose
      by_boxes (inl some) =
          let left = some.1 in
          let right = some.4.1 in
          inl (record { left_face = left.id; right_face = right.id }, (some.0, left, some.2, some.3, (some.4.4.0, (some.4.0, right, some.4.2, some.4.3, (some.4.4.1.0, some.4.4.1.1)))))
      by_boxes (inr none) = inr (λ gauge legal.
          let left = legal.1 in
          let right = legal.4.1.1 in
          none (legal.0, left, legal.2, legal.3, (legal.4.1.0, right, legal.4.1.2, legal.4.1.3, (own_number gauge.left_face left legal.4.0, (own_number gauge.right_face right legal.4.1.4.0, legal.4.1.4.1)))))
