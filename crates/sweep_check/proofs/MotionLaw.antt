-- The motion law: where no reason of the kinds Frame to SelfHit holds in a pose, the motion meets nothing.
use Rattle.std.proofs.Common.{◌≡◌, ◌≢◌, inl, inr, ℕ, ◌+◌, ◌<◌, ℤ, pos, neg_ℤ, ◌+ℤ◌, ◌-ℤ◌, ◌*ℤ◌, ◌≤ℤ◌, ◌<ℤ◌, Bool, true, false, ◌&&◌, List, [], ◌∷◌, map, length, get_or, refl, sym, ◌∙◌, ap, subst, arith}
use Rattle.std.specs.Prelude.{All, Any, Option, Some, None, IsSomeAnd}
use Rattle.std.specs.List.{enumerate_from}
use Rattle.std.proofs.lemmas.List.{get_or_default, get_or-map, length-map}
use Rattle.std.proofs.lemmas.List.FromFn.{get_or-enumerate_from, length-enumerate_from}
use Rattle.algebra.proofs.Order.{signs, nonneg-mul, nonneg-add, positive-mul, positive-nonneg, nonneg_by_factor, nonneg_as, positive_as, positive_by_factor, positive-add, le_to, lt_to, lt_from}
use Rattle.algebra.proofs.Ring.{ring, var, ◌⊕◌, ◌⊖◌, ◌⊗◌}
use Rattle.brake_base.specs.declared.plane.Rect.{Rect}
use Rattle.brake_base.specs.declared.plane.Rat2.{Rat2}
use Rattle.brake_base.specs.declared.plane.Quarter.{Quarter}
use Rattle.brake_base.specs.declared.plane.Quarter.TheVariants.{Q1, Q2, Q3, Q4}
use Rattle.brake_base.specs.declared.stroke.Back.{Back}
use Rattle.brake_base.specs.declared.stroke.Half.{Half}
use Rattle.brake_base.specs.declared.stroke.Half.TheVariants.{Back as BackHalf, Front as FrontHalf}
use Rattle.brake_base.specs.declared.reason.Reason.{Reason}
use Rattle.brake_base.specs.declared.reason.Reason.TheVariants.{Frame, Upper, Nose, Lower, SelfHit, NoGauge}
use Rattle.fold_boxes.specs.declared.posed_part.PoseBox.{PoseBox}
use Rattle.fold_boxes.specs.Pose.{PoseData}
use Rattle.machine_file.specs.declared.machine.Fixed.{Fixed}
use Rattle.sector_geom.specs.declared.sector.Sweep.TheVariants.{Eighth, Fourth}
use Rattle.sector_geom.specs.Plane.{Holds, HasInterior, IsInside}
use Rattle.sector_geom.specs.Motion.{Triple, IsTriple, IsRise, turned}
use Rattle.sector_geom.specs.Pieces.{widened_by, piece_of, SomeHolds}
use Rattle.sector_geom.specs.Covers.{cover_of, IsCoverBy}
use Rattle.sector_geom.specs.Clear.{IsClearOfNose, IsInNose}
use Rattle.sector_geom.proofs.CoverLaw.{cover_law}
use Rattle.sector_geom.proofs.FreeLaw.{free_law}
use Rattle.sector_geom.proofs.NoseLaw.{nose_law}
use Rattle.sector_geom.proofs.PieceLaws.{IsPiece, piece_is, hold_together}
use Rattle.job_setup.specs.declared.obstacle.Obstacle.{Obstacle}
use Rattle.job_setup.specs.Setup.{StageData, JobData}
use Rattle.job_setup.specs.ValidJob.{IsJob}
use Rattle.job_setup.specs.StageOf.{no_stage, stage_of}
use Rattle.job_setup.specs.Obstacles.{raised, upper_boxes, lower_boxes, half_opening, is_sunk, swept_rect, upper_obstacle, lower_obstacle, upper_group, lower_group}
use Rattle.job_setup.specs.Reasons.{across, seen_from, widening, moving_rect, piece_at, lies_high, MeetsAlong, IsHit, IsNoseHit, IsSelfHit, SomeBox, SomeObstacle, IsReasonOf, IsReason, IsPoseAt}
use Rattle.sweep_check.specs.SunkLaw.{IsInsideRisen}
use Rattle.sweep_check.specs.MotionFree.{MissesUpper, MissesNose, MissesRising, MissesOther, IsHitReason, IsMotionFree}
use Rattle.sweep_check.proofs.Sunk.{steady}
use Rattle.sweep_check.proofs.SunkLaw.{sunk_misses}
use Rattle.sweep_check.proofs.StrokeBoxes.{IsRisen, risen, IsTested, stroke_near, stroke_solid, moving_tested}

-- ---- a point of a rectangle lies in one of its pieces
-- a piece of the rectangle that holds the point
record IsHeld (r : Rect) (p : Rat2) : Type 0 where
  quarter : Quarter
  piece : Rect
  is : piece_of quarter r ≡ Some piece
  held : Holds piece p

-- the first of some pieces holds the point, or one of the others does
by_first : {X : Type 0} (o : Option Rect) (rest : List (Option Rect)) (p : Rat2) → ((piece : Rect) → o ≡ Some piece → Holds piece p → X) → (SomeHolds rest p → X) → SomeHolds (o ∷ rest) p → X
by_first None rest p here later held = later held
by_first (Some piece) rest p here later (inl held) = here piece refl held
by_first (Some piece) rest p here later (inr held) = later held

held_in : (r : Rect) → HasInterior r → (p : Rat2) → Holds r p → IsHeld r p
held_in r interior p held =
    by_first (piece_of Q1 r) _ p (λ piece is h. record { quarter = Q1; piece = piece; is = is; held = h })
    (by_first (piece_of Q2 r) _ p (λ piece is h. record { quarter = Q2; piece = piece; is = is; held = h })
    (by_first (piece_of Q3 r) _ p (λ piece is h. record { quarter = Q3; piece = piece; is = is; held = h })
    (by_first (piece_of Q4 r) _ p (λ piece is h. record { quarter = Q4; piece = piece; is = is; held = h }) (λ none. absurd none))))
    (hold_together r interior p held)

-- ---- a piece with its cover
cover_by : (quarter : Quarter) (piece : Rect) → IsPiece quarter piece → IsCoverBy Eighth (cover_of quarter Eighth piece)
cover_by quarter piece is = record { piece = piece; quarter = quarter; in_range = is.in_range; in_quarter = is.in_quarter; interior = is.interior; value = refl }

clear_misses_nose : (quarter : Quarter) (piece : Rect) (nose : ℤ) → IsPiece quarter piece → IsClearOfNose (cover_of quarter Eighth piece) nose → (p : Rat2) (t : Triple) → Holds piece p → IsTriple t → IsInNose nose (turned t p) → ⊥
clear_misses_nose quarter piece nose is clear p t held turn inside =
    nose_law (cover_of quarter Eighth piece) (cover_by quarter piece is) nose clear (turned t p) (cover_law quarter Eighth piece is.in_quarter is.interior p t held turn) inside

-- ---- the rise
-- how far the lower tools can have risen, over the common denominator
rise_bounds : (thickness half : ℤ) → IsRisen thickness half → (t : Triple) (e d : ℤ) → IsTriple t → IsRise thickness half t e d → (pos 0 ≤ℤ e) × (pos 0 ≤ℤ (half *ℤ d -ℤ e))
rise_bounds thickness half numbers t e d turn rise =
    let A = var 0 in let B = var 1 in let C = var 2 in let E = var 3 in let D = var 4 in let H = var 5 in let T = var 6 in
    let xs = t.a ∷ t.b ∷ t.c ∷ e ∷ d ∷ half ∷ thickness ∷ [] in
    let s = steady t turn in
    let pd = positive-nonneg rise.positive in (
      nonneg_by_factor s.right (nonneg_as (ring xs (A ⊗ E) (E ⊗ A) tt) rise.risen),
      nonneg_by_factor s.right (nonneg_as (ring xs (A ⊗ (H ⊗ D ⊖ E)) (((H ⊗ B ⊖ T ⊗ (C ⊖ A)) ⊗ D ⊖ E ⊗ A) ⊕ (H ⊗ ((A ⊖ B) ⊗ D) ⊕ T ⊗ ((C ⊖ A) ⊗ D))) tt)
          (nonneg-add (le_to rise.limit) (nonneg-add (nonneg-mul numbers.opened (nonneg-mul s.order pd)) (nonneg-mul numbers.thin (nonneg-mul s.short pd))))),
    )

above_low : (z e d y q : ℤ) → pos 0 <ℤ d → pos 0 ≤ℤ q → pos 0 ≤ℤ e → ((z *ℤ d +ℤ e) *ℤ q) <ℤ (y *ℤ d) → (z *ℤ q) <ℤ y
above_low z e d y q pd pq pe above =
    let Z = var 0 in let E = var 1 in let D = var 2 in let Y = var 3 in let Q = var 4 in
    lt_from (positive_by_factor (positive-nonneg pd) (positive_as (ring (z ∷ e ∷ d ∷ y ∷ q ∷ []) (D ⊗ (Y ⊖ Z ⊗ Q)) ((Y ⊗ D ⊖ (Z ⊗ D ⊕ E) ⊗ Q) ⊕ E ⊗ Q) tt) (positive-add (lt_to above) (nonneg-mul pe pq))))

below_high : (z half e d y q : ℤ) → pos 0 <ℤ d → pos 0 ≤ℤ q → pos 0 ≤ℤ (half *ℤ d -ℤ e) → (y *ℤ d) <ℤ ((z *ℤ d +ℤ e) *ℤ q) → y <ℤ ((z +ℤ half) *ℤ q)
below_high z half e d y q pd pq pe below =
    let Z = var 0 in let H = var 1 in let E = var 2 in let D = var 3 in let Y = var 4 in let Q = var 5 in
    lt_from (positive_by_factor (positive-nonneg pd) (positive_as (ring (z ∷ half ∷ e ∷ d ∷ y ∷ q ∷ []) (D ⊗ ((Z ⊕ H) ⊗ Q ⊖ Y)) (((Z ⊗ D ⊕ E) ⊗ Q ⊖ Y ⊗ D) ⊕ (H ⊗ D ⊖ E) ⊗ Q) tt) (positive-add (lt_to below) (nonneg-mul pe pq))))

-- what is inside a risen lower box is inside the rectangle that it sweeps
in_swept : (thickness half : ℤ) → IsRisen thickness half → (side : Half) (r : Rect) (t : Triple) (e d : ℤ) (p : Rat2) → IsTriple t → IsRise thickness half t e d → pos 0 <ℤ p.d
    → IsInsideRisen (seen_from side (raised (neg_ℤ thickness) r)) e d p → IsInside (seen_from side (swept_rect thickness half r)) p
in_swept thickness half numbers side r t e d p turn rise positive = by_side side
  where
    low : (((r.z0 +ℤ neg_ℤ thickness) *ℤ d +ℤ e) *ℤ p.d) <ℤ (p.z *ℤ d) → ((r.z0 -ℤ thickness) *ℤ p.d) <ℤ p.z
    low above =
        let same : r.z0 -ℤ thickness ≡ r.z0 +ℤ neg_ℤ thickness = omega (arith, signs) in
        rw same (above_low (r.z0 +ℤ neg_ℤ thickness) e d p.z p.d rise.positive (positive-nonneg positive) (rise_bounds thickness half numbers t e d turn rise).0 above)

    high : (p.z *ℤ d) <ℤ (((r.z1 +ℤ neg_ℤ thickness) *ℤ d +ℤ e) *ℤ p.d) → p.z <ℤ (((r.z1 -ℤ thickness) +ℤ half) *ℤ p.d)
    high below =
        let same : r.z1 -ℤ thickness ≡ r.z1 +ℤ neg_ℤ thickness = omega (arith, signs) in
        rw same (below_high (r.z1 +ℤ neg_ℤ thickness) half e d p.z p.d rise.positive (positive-nonneg positive) (rise_bounds thickness half numbers t e d turn rise).1 below)

    by_side : (side : Half) → IsInsideRisen (seen_from side (raised (neg_ℤ thickness) r)) e d p → IsInside (seen_from side (swept_rect thickness half r)) p
    by_side BackHalf h = record { positive = positive; left = h.left; right = h.right; low = low h.low; high = high h.high }
    by_side FrontHalf h = record { positive = positive; left = h.left; right = h.right; low = low h.low; high = high h.high }

-- ---- what isn't hit is missed
-- a piece that is there has a property that the piece has
some_piece : (o : Option Rect) (piece : Rect) (P : Rect → Type 0) → o ≡ Some piece → P piece → IsSomeAnd o P
some_piece o piece P is holds = subst (λ (x : Option Rect). IsSomeAnd x P) (sym is) holds

upper_missed : (job : JobData) (box : PoseBox) (index : ℕ) (upper : Fixed) → IsTested (moving_rect job box) → ((quarter : Quarter) → IsHit job box quarter (upper_obstacle (index, upper)) → ⊥) → MissesUpper job box upper
upper_missed job box index upper tested unhit along p t held turn inside =
    let r = moving_rect job box in
    let at = held_in r tested.interior p held in
    let is = piece_is at.quarter r at.piece tested.in_range at.is in
    unhit at.quarter (record {
      along = along;
      across = some_piece (piece_at job box at.quarter) at.piece _ at.is (refl, λ free. free_law job.setup.fine at.quarter Eighth at.piece (seen_from box.half upper.rect) is free p t at.held turn inside);
    })

nose_missed : (job : JobData) (box : PoseBox) (stage : StageData) → IsTested (moving_rect job box) → ((quarter : Quarter) → IsNoseHit job box quarter stage → ⊥) → MissesNose job box stage
nose_missed job box stage tested unhit along p t held turn inside =
    let r = moving_rect job box in
    let at = held_in r tested.interior p held in
    let is = piece_is at.quarter r at.piece tested.in_range at.is in
    unhit at.quarter (record {
      along = along;
      across = some_piece (piece_at job box at.quarter) at.piece _ at.is (λ clear. clear_misses_nose at.quarter at.piece stage.punch.nose is clear p t at.held turn inside);
    })

lower_missed : (job : JobData) (stage : ℕ) (box : PoseBox) (index : ℕ) (lower : Fixed) → IsRisen job.part.thickness (half_opening (stage_of job stage)) → IsTested (moving_rect job box)
    → ((quarter : Quarter) → IsHit job box quarter (lower_obstacle job.part.thickness (half_opening (stage_of job stage)) (index, lower)) → ⊥) → MissesRising job stage box lower
lower_missed job stage box index lower numbers tested unhit along p t e d held turn rise inside =
    let r = moving_rect job box in
    let at = held_in r tested.interior p held in
    let is = piece_is at.quarter r at.piece tested.in_range at.is in
    by_test at.quarter at.piece is at.is at.held (is_sunk half lower.rect && lies_high thickness at.quarter at.piece) refl
  where
    thickness : ℤ
    thickness = job.part.thickness

    half : ℤ
    half = half_opening (stage_of job stage)

    by_test : (quarter : Quarter) (piece : Rect) → IsPiece quarter piece → piece_at job box quarter ≡ Some piece → Holds piece p → (untested : Bool) → (is_sunk half lower.rect && lies_high thickness quarter piece) ≡ untested → ⊥
    by_test quarter piece is there held_there true test = sunk_misses thickness half numbers box.half quarter piece lower.rect is.in_quarter test p t e d held_there turn rise inside
    by_test quarter piece is there held_there false test =
        let positive : pos 0 <ℤ (t.c *ℤ p.d) = positive-mul turn.positive held_there.positive in
        let swept = in_swept thickness half numbers box.half lower.rect t e d (turned t p) turn rise positive inside in
        unhit quarter (record {
          along = along;
          across = some_piece (piece_at job box quarter) piece _ there (test, λ free. free_law job.setup.fine quarter Eighth piece (seen_from box.half (swept_rect thickness half lower.rect)) is free p t held_there turn swept);
        })

other_missed : (job : JobData) (box other : PoseBox) → IsTested (moving_rect job box) → ((quarter : Quarter) → IsSelfHit job box quarter other → ⊥) → MissesOther job box other
other_missed job box other tested unhit back front along p t held turn inside =
    let r = moving_rect job box in
    let at = held_in r tested.interior p held in
    let is = piece_is at.quarter r at.piece tested.in_range at.is in
    unhit at.quarter (record {
      back = back;
      front = front;
      along = along;
      across = some_piece (piece_at job box at.quarter) at.piece _ at.is (λ free. free_law job.setup.fine at.quarter Fourth at.piece (widened_by (widening job) (across other.body)) is free p t at.held turn inside);
    })

-- ---- the boxes and the obstacles by their indices
-- a box of the pose has its own number
some_box : (pose : PoseData) (k : ℕ) (d : PoseBox) (P : PoseBox → Type 0) → k < length pose.boxes → P (get_or pose.boxes k d) → SomeBox pose (get_or pose.boxes k d).id P
some_box pose k d P inside holds = let box = get_or pose.boxes k d in (k, box, inside, get_or_default pose.boxes k box d inside, (refl, holds))

some_obstacle : (f : ℕ × Fixed → Obstacle) (boxes : List Fixed) (j : ℕ) (e : Fixed) (P : Obstacle → Type 0) → j < length boxes → (f (j, get_or boxes j e)).index ≡ j → P (f (j, get_or boxes j e)) → SomeObstacle (map f (enumerate_from 0 boxes)) j P
some_obstacle f boxes j e P inside index holds =
    let box = get_or boxes j e in
    let count = length-map (enumerate_from 0 boxes) f ∙ length-enumerate_from 0 boxes in
    let within : j < length (enumerate_from 0 boxes) = omega (arith, inside, length-enumerate_from 0 boxes) in
    let number : 0 + j ≡ j = omega arith in
    let there : get_or (map f (enumerate_from 0 boxes)) j (f (j, box)) ≡ f (j, box) = get_or-map f (enumerate_from 0 boxes) j (0, e) (f (j, box)) within ∙ ap f (get_or-enumerate_from 0 boxes j (0, e) inside) ∙ ap (λ n. f (n, box)) number in
    (j, f (j, box), omega (arith, inside, count), there, (index, holds))

-- ---- the law
pub motion_law : (job : JobData) → IsJob job → (stage : ℕ) (pose : PoseData) (back : Back) → IsPoseAt job stage pose → ((reason : Reason) → IsHitReason reason → IsReasonOf job pose back stage reason → ⊥) → IsMotionFree job stage pose
motion_law job fit stage pose back at none = record {
  frames = λ k d inside i e within along. none (Frame (get_or pose.boxes k d).id) tt (some_box pose k d (λ box. Any (MeetsAlong box) job.setup.frames) inside (i, get_or job.setup.frames i e, within, get_or_default job.setup.frames i _ e within, along));
  upper = λ k d inside j e within.
      let box = get_or pose.boxes k d in
      upper_missed job box j (get_or (upper_boxes job) j e) (tested k d inside)
      (λ quarter hit. none (Upper box.id quarter j) tt (some_box pose k d (λ other. SomeObstacle (upper_group job) j (IsHit job other quarter)) inside (some_obstacle upper_obstacle (upper_boxes job) j e (IsHit job box quarter) within refl hit)));
  noses = λ k d inside j e within.
      let box = get_or pose.boxes k d in
      nose_missed job box (get_or job.setup.stages j e) (tested k d inside)
      (λ quarter hit. none (Nose box.id quarter j) tt (within, some_box pose k d (λ other. IsNoseHit job other quarter (stage_of job j)) inside (subst (IsNoseHit job box quarter) (get_or_default job.setup.stages j e no_stage within) hit)));
  lower = λ k d inside j e within.
      let box = get_or pose.boxes k d in
      lower_missed job stage box j (get_or (lower_boxes job) j e) (risen job fit stage at.within) (tested k d inside)
      (λ quarter hit. none (Lower box.id quarter j) tt (some_box pose k d (λ other. SomeObstacle (lower_group job stage) j (IsHit job other quarter)) inside (some_obstacle (lower_obstacle job.part.thickness (half_opening (stage_of job stage))) (lower_boxes job) j e (IsHit job box quarter) within refl hit)));
  other = λ k d inside j e within.
      let box = get_or pose.boxes k d in
      other_missed job box (get_or pose.boxes j e) (tested k d inside)
      (λ quarter hit. none (SelfHit box.id quarter (get_or pose.boxes j e).id) tt (some_box pose k d (λ one. SomeBox pose (get_or pose.boxes j e).id (IsSelfHit job one quarter)) inside (some_box pose j e (IsSelfHit job box quarter) within hit)));
}
  where
    tested : All (λ box. IsTested (moving_rect job box)) pose.boxes
    tested k d inside = moving_tested job fit _ (stroke_near job fit stage pose at k d inside) (stroke_solid job fit stage pose at k d inside)

-- ---- where no reason but NoGauge holds of a stroke
hit_differs : (reason : Reason) → IsHitReason reason → reason ≢ NoGauge
hit_differs (Frame box) hit same = absurd (cc)
hit_differs (Upper box quarter index) hit same = absurd (cc)
hit_differs (Nose box quarter stage) hit same = absurd (cc)
hit_differs (Lower box quarter index) hit same = absurd (cc)
hit_differs (SelfHit box quarter other) hit same = absurd (cc)
hit_differs _ hit same = absurd hit

pub motion_of_none : (job : JobData) → IsJob job → (stage : ℕ) (pose : PoseData) (at : IsPoseAt job stage pose) → ((reason : Reason) → reason ≢ NoGauge → IsReason job at.mask at.group at.back stage reason → ⊥) → IsMotionFree job stage pose
motion_of_none job fit stage pose at none = motion_law job fit stage pose at.back at (λ reason hit holds. none reason (hit_differs reason hit) (subst (λ (p : PoseData). IsReasonOf job p at.back stage reason) at.value holds))
