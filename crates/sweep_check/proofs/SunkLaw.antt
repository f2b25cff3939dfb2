-- The sunk law of a pose.
use Rattle.std.proofs.Common.{◌≡◌, ◌⊎◌, inl, inr, ℕ, ℤ, pos, neg_ℤ, ◌+ℤ◌, ◌-ℤ◌, ◌*ℤ◌, ◌≤ℤ◌, ◌<ℤ◌, true, ◌&&◌, ◌||◌, int_le, [], ◌∷◌, get_or, refl, arith}
use Rattle.std.specs.Prelude.{All, IfSome, Option, Some, None}
use Rattle.std.proofs.lemmas.Bool.{and_parts, or_cases}
use Rattle.algebra.proofs.Order.{signs, nonneg-mul, positive-nonneg}
use Rattle.algebra.proofs.Ring.{ring, var, ◌⊕◌, ◌⊗◌}
use Rattle.algebra.proofs.Widths.{le_iff}
use Rattle.brake_base.specs.declared.plane.Rect.{Rect}
use Rattle.brake_base.specs.declared.plane.Rat2.{Rat2}
use Rattle.brake_base.specs.declared.plane.Quarter.{Quarter}
use Rattle.brake_base.specs.declared.plane.Quarter.TheVariants.{Q1, Q2, Q3, Q4}
use Rattle.brake_base.specs.declared.stroke.Half.{Half}
use Rattle.brake_base.specs.declared.stroke.Half.TheVariants.{Back, Front}
use Rattle.fold_boxes.specs.Pose.{PoseData}
use Rattle.sector_geom.specs.Plane.{Holds}
use Rattle.sector_geom.specs.Motion.{turned}
use Rattle.sector_geom.specs.Pieces.{LiesIn}
use Rattle.sector_geom.proofs.PieceLaws.{piece_is}
use Rattle.job_setup.specs.Setup.{JobData}
use Rattle.job_setup.specs.ValidJob.{IsJob}
use Rattle.job_setup.specs.StageOf.{stage_of}
use Rattle.job_setup.specs.Obstacles.{raised, lower_boxes, half_opening, is_sunk}
use Rattle.job_setup.specs.Reasons.{seen_from, moving_rect, piece_at, lies_high, IsPoseAt}
use Rattle.sweep_check.specs.SunkLaw.{IsInsideRisen, MissesRisen, MissesLower, IsUntested, IsSunkLaw}
use Rattle.sweep_check.proofs.Sunk.{Rising, steady, behind_misses, before_misses, below_misses}
use Rattle.sweep_check.proofs.StrokeBoxes.{IsRisen, risen, stroke_near, stroke_solid, moving_tested}

-- ---- what the tests say
-- a lower box that the rising sheet can't meet, before it is lowered
abbrev pub IsSunk : ℤ → Rect → Type 0
IsSunk half r = (r.z1 ≤ℤ pos 0) × ((half ≤ℤ r.y0) ⊎ ((r.y1 ≤ℤ neg_ℤ half) ⊎ (r.z1 ≤ℤ neg_ℤ half)))

sunk_from : (half : ℤ) (r : Rect) → is_sunk half r ≡ true → IsSunk half r
sunk_from half r h =
    let parts = and_parts (int_le r.z1 (pos 0)) ((int_le half r.y0 || int_le r.y1 (neg_ℤ half)) || int_le r.z1 (neg_ℤ half)) h in
    ((le_iff r.z1 (pos 0)).0 parts.0, by_place (or_cases (int_le half r.y0 || int_le r.y1 (neg_ℤ half)) (int_le r.z1 (neg_ℤ half)) parts.1))
  where
    by_side : (int_le half r.y0 ≡ true) ⊎ (int_le r.y1 (neg_ℤ half) ≡ true) → (half ≤ℤ r.y0) ⊎ ((r.y1 ≤ℤ neg_ℤ half) ⊎ (r.z1 ≤ℤ neg_ℤ half))
    by_side (inl t) = inl ((le_iff half r.y0).0 t)
    by_side (inr t) = inr (inl ((le_iff r.y1 (neg_ℤ half)).0 t))

    by_place : ((int_le half r.y0 || int_le r.y1 (neg_ℤ half)) ≡ true) ⊎ (int_le r.z1 (neg_ℤ half) ≡ true) → (half ≤ℤ r.y0) ⊎ ((r.y1 ≤ℤ neg_ℤ half) ⊎ (r.z1 ≤ℤ neg_ℤ half))
    by_place (inl t) = by_side (or_cases (int_le half r.y0) (int_le r.y1 (neg_ℤ half)) t)
    by_place (inr t) = inr (inr ((le_iff r.z1 (neg_ℤ half)).0 t))

-- where such a box stands before it rises: its top, and one of its sides or its top again
record StandsLow (thickness half : ℤ) (r : Rect) : Type 0 where
  top : pos 0 ≤ℤ (neg_ℤ r.z1 -ℤ thickness)
  place : (half ≤ℤ r.y0) ⊎ ((r.y1 ≤ℤ neg_ℤ half) ⊎ (pos 0 ≤ℤ ((neg_ℤ half -ℤ thickness) -ℤ r.z1)))

stands_low : (thickness half : ℤ) (side : Half) (r : Rect) → IsSunk half r → StandsLow thickness half (seen_from side (raised (neg_ℤ thickness) r))
stands_low thickness half Back r (low, inl behind) = record { top = omega (arith, signs, low); place = inl behind }
stands_low thickness half Back r (low, inr (inl before)) = record { top = omega (arith, signs, low); place = inr (inl before) }
stands_low thickness half Back r (low, inr (inr deep)) = record { top = omega (arith, signs, low); place = inr (inr (omega (arith, signs, deep))) }
stands_low thickness half Front r (low, inl behind) = record { top = omega (arith, signs, low); place = inr (inl (omega (arith, signs, behind))) }
stands_low thickness half Front r (low, inr (inl before)) = record { top = omega (arith, signs, low); place = inl (omega (arith, signs, before)) }
stands_low thickness half Front r (low, inr (inr deep)) = record { top = omega (arith, signs, low); place = inr (inr (omega (arith, signs, deep))) }

-- ---- the points of a piece that lies high
-- the point is at or behind the tip, and no deeper than the sheet is thick
record IsHigh (thickness : ℤ) (p : Rat2) : Type 0 where
  behind : pos 0 ≤ℤ p.y
  high : pos 0 ≤ℤ (p.z +ℤ thickness *ℤ p.d)

behind_tip : (low y d : ℤ) → pos 0 ≤ℤ low → pos 0 <ℤ d → (low *ℤ d) ≤ℤ y → pos 0 ≤ℤ y
behind_tip low y d some positive held = let more = nonneg-mul some (positive-nonneg positive) in omega (arith, signs, more, held)

not_deep : (thickness low z d : ℤ) → pos 0 ≤ℤ (low +ℤ thickness) → pos 0 <ℤ d → (low *ℤ d) ≤ℤ z → pos 0 ≤ℤ (z +ℤ thickness *ℤ d)
not_deep thickness low z d some positive held =
    let more = nonneg-mul some (positive-nonneg positive) in
    let sum = ring (low ∷ thickness ∷ d ∷ []) ((var 0 ⊕ var 1) ⊗ var 2) (var 0 ⊗ var 2 ⊕ var 1 ⊗ var 2) tt in
    omega (arith, signs, more, held, sum)

high_point : (thickness : ℤ) (quarter : Quarter) (piece : Rect) (p : Rat2) → pos 0 ≤ℤ thickness → LiesIn quarter piece → lies_high thickness quarter piece ≡ true → Holds piece p → IsHigh thickness p
high_point thickness Q1 piece p thin lies test held = record {
  behind = behind_tip piece.y0 p.y p.d lies.0 held.positive held.left;
  high = not_deep thickness piece.z0 p.z p.d (omega (arith, signs, lies.1, thin)) held.positive held.low;
}
high_point thickness Q2 piece p thin lies test held = absurd (cc)
high_point thickness Q3 piece p thin lies test held = absurd (cc)
high_point thickness Q4 piece p thin lies test held =
    let deep = (le_iff (neg_ℤ thickness) piece.z0).0 test in
    record { behind = behind_tip piece.y0 p.y p.d lies.0 held.positive held.left; high = not_deep thickness piece.z0 p.z p.d (omega (arith, signs, deep)) held.positive held.low }

-- ---- the law
-- of one piece and one lower box, as a half is looked at
pub sunk_misses : (thickness half : ℤ) → IsRisen thickness half → (side : Half) (quarter : Quarter) (piece r : Rect) → LiesIn quarter piece → (is_sunk half r && lies_high thickness quarter piece) ≡ true
    → MissesRisen thickness half piece (seen_from side (raised (neg_ℤ thickness) r))
sunk_misses thickness half numbers side quarter piece r lies test p t e d held turn rise inside =
    let parts = and_parts (is_sunk half r) (lies_high thickness quarter piece) test in
    let low = stands_low thickness half side r (sunk_from half r parts.0) in
    let point = high_point thickness quarter piece p numbers.thin lies parts.1 held in
    let rising : Rising thickness half t p e d = record { turn = turn; steady = steady t turn; thin = numbers.thin; opened = numbers.opened; positive = held.positive; behind = point.behind; high = point.high; rise = rise } in
    let box = seen_from side (raised (neg_ℤ thickness) r) in
    by_place box rising low.top low.place inside
  where
    by_place : (box : Rect) → Rising thickness half t p e d → pos 0 ≤ℤ (neg_ℤ box.z1 -ℤ thickness) → (half ≤ℤ box.y0) ⊎ ((box.y1 ≤ℤ neg_ℤ half) ⊎ (pos 0 ≤ℤ ((neg_ℤ half -ℤ thickness) -ℤ box.z1))) → IsInsideRisen box e d (turned t p) → ⊥
    by_place box rising top (inl behind) h = behind_misses thickness half t p e d rising box.y0 box.z1 behind top h.left h.high
    by_place box rising top (inr (inl before)) h = before_misses thickness half t p e d rising box.y1 box.z1 before top h.right h.high
    by_place box rising top (inr (inr deep)) h = below_misses thickness half t p e d rising box.z1 deep h.high

if_some : {X : Type 0} (o : Option X) (P : X → Type 0) → ((x : X) → o ≡ Some x → P x) → IfSome o P
if_some None P h = tt
if_some (Some x) P h = h x refl

pub sunk_law : (job : JobData) → IsJob job → (stage : ℕ) (pose : PoseData) → IsPoseAt job stage pose → IsSunkLaw job stage pose
sunk_law job fit stage pose at k d inside quarter =
    let box = get_or pose.boxes k d in
    let half = half_opening (stage_of job stage) in
    let tested = moving_tested job fit box (stroke_near job fit stage pose at k d inside) (stroke_solid job fit stage pose at k d inside) in
    if_some (piece_at job box quarter) (λ piece. All (λ lower. IsUntested job stage quarter piece lower → MissesLower job stage box.half piece lower) (lower_boxes job)) (λ piece is i e within test.
    let lies = (piece_is quarter (moving_rect job box) piece tested.in_range is).in_quarter in
    sunk_misses job.part.thickness half (risen job fit stage at.within) box.half quarter piece (get_or (lower_boxes job) i e).rect lies test)
