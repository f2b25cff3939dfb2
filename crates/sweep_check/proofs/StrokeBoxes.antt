-- The boxes of a job's pose lie near and have an interior, and so have the rectangles with which they sweep.
use Rattle.std.proofs.Common.{◌≡◌, ℕ, ◌<◌, ◌≤◌, ◌^◌, ℤ, pos, ◌+ℤ◌, ◌-ℤ◌, ◌≤ℤ◌, ◌<ℤ◌, Bool, true, false, int_le, unsigned_abs, length, refl, sym, subst, arith}
use Rattle.std.specs.Prelude.{All, AllPairs, if◌then◌else◌, int_div}
use Rattle.std.specs.Int.{int_max, int_min}
use Rattle.std.proofs.lemmas.Int.{ints, clamps}
use Rattle.brake_base.specs.declared.plane.Rect.{Rect}
use Rattle.brake_base.specs.declared.stroke.Half.{Half}
use Rattle.brake_base.specs.declared.stroke.Half.TheVariants.{Back, Front}
use Rattle.unfolder.specs.Near.{IsWithin}
use Rattle.unfolder.specs.Extent.{IsNear}
use Rattle.fold_boxes.specs.declared.posed_part.PoseBox.{PoseBox}
use Rattle.fold_boxes.specs.Pose.{PoseData}
use Rattle.fold_boxes.specs.Posing.{IsNearPoseBox, IsSolidPoseBox}
use Rattle.fold_boxes.proofs.PosedBoxes.{pose_boxes_near, pose_boxes_solid}
use Rattle.sweep_check.proofs.BoxOrder.{pose_boxes_ascend, pose_boxes_few}
use Rattle.fold_boxes.proofs.PartBounds.{small_numbers}
use Rattle.sector_geom.specs.Plane.{HasInterior, IsInRange}
use Rattle.sector_geom.specs.Pieces.{start_widened_by, end_widened_by, widened_by}
use Rattle.job_setup.specs.Setup.{JobData, shape_of}
use Rattle.job_setup.specs.StageOf.{no_stage, stage_of}
use Rattle.job_setup.specs.ValidJob.{IsJob}
use Rattle.job_setup.specs.Obstacles.{half_opening}
use Rattle.job_setup.specs.Reasons.{across, seen_from, widening, moving_rect, IsPoseAt}
use Rattle.job_setup.proofs.Near.{setup_near}
use Rattle.job_setup.proofs.Validity.{shape_of_job}

-- ---- the boxes of a pose
range_within : (n : ℤ) → IsNear n → IsWithin 1000000000 n
range_within n near = record { low = omega (arith, ints, near.0); high = near.1 }

pub stroke_near : (job : JobData) → IsJob job → (stage : ℕ) (pose : PoseData) → IsPoseAt job stage pose → All IsNearPoseBox pose.boxes
stroke_near job fit stage pose at =
    let range = (setup_near job fit).stages stage no_stage at.within in
    subst (λ (p : PoseData). All IsNearPoseBox p.boxes) (sym at.value)
    (pose_boxes_near (shape_of job) (shape_of_job job fit) at.mask at.group at.stroke at.back (stage_of job stage).x0 (stage_of job stage).x1 (range_within _ range.x0) (range_within _ range.x1))

pub stroke_solid : (job : JobData) → IsJob job → (stage : ℕ) (pose : PoseData) → IsPoseAt job stage pose → All IsSolidPoseBox pose.boxes
stroke_solid job fit stage pose at =
    subst (λ (p : PoseData). All IsSolidPoseBox p.boxes) (sym at.value)
    (pose_boxes_solid (shape_of job) (shape_of_job job fit) at.mask at.group at.stroke at.back (stage_of job stage).x0 (stage_of job stage).x1)

pub stroke_ascend : (job : JobData) → IsJob job → (stage : ℕ) (pose : PoseData) → IsPoseAt job stage pose → AllPairs (λ a b. a.id < b.id) pose.boxes
stroke_ascend job fit stage pose at =
    subst (λ (p : PoseData). AllPairs (λ a b. a.id < b.id) p.boxes) (sym at.value)
    (pose_boxes_ascend (shape_of job) (shape_of_job job fit) at.mask at.group at.back (stage_of job stage).x0 (stage_of job stage).x1)

pub stroke_few : (job : JobData) → IsJob job → (stage : ℕ) (pose : PoseData) → IsPoseAt job stage pose → length pose.boxes ≤ 25
stroke_few job fit stage pose at =
    subst (λ (p : PoseData). length p.boxes ≤ 25) (sym at.value)
    (pose_boxes_few (shape_of job) (shape_of_job job fit) at.mask at.group at.back (stage_of job stage).x0 (stage_of job stage).x1)

-- ---- the numbers of a job
-- a sheet's thickness and half of a die's opening aren't negative
pub record IsRisen (thickness half : ℤ) : Type 0 where
  pub thin : pos 0 ≤ℤ thickness
  pub opened : pos 0 ≤ℤ half

half_nonneg : (v : ℤ) → pos 0 ≤ℤ v → pos 0 ≤ℤ int_div v (pos 2)
half_nonneg v some = omega (arith, ints, some)

pub risen : (job : JobData) → IsJob job → (stage : ℕ) → stage < length job.setup.stages → IsRisen job.part.thickness (half_opening (stage_of job stage))
risen job fit stage within =
    let die = (fit.setup.stages.each stage no_stage within).die in
    record {
      thin = omega (arith, ints, fit.part.sheet.thickness.range.bottom);
      opened = half_nonneg (stage_of job stage).die.v (omega (arith, ints, die.sizes.v.range.bottom));
    }

-- by how much boxes are widened
pub record IsSmallWidening (by : ℤ) : Type 0 where
  pub some : pos 0 ≤ℤ by
  pub few : by ≤ℤ pos 100000

pub small_widening : (job : JobData) → IsJob job → IsSmallWidening (widening job)
small_widening job fit =
    let small = small_numbers (shape_of job) (shape_of_job job fit) in
    let thick = fit.part.sheet.thickness.range in
    record { some = omega (arith, ints); few = omega (arith, ints, small.thick, small.deep, small.shallow, thick.bottom, thick.top) }

-- ---- the rectangles
lowered_end : (by low : ℤ) → IsSmallWidening by → unsigned_abs low ≤ 600000000 → (unsigned_abs (start_widened_by by low) ≤ 2 ^ 30) × (start_widened_by by low ≤ℤ low)
lowered_end by low small near = by_test (int_le (pos 0) low) (λ h. le_from h)
  where
    le_from : int_le (pos 0) low ≡ true → pos 0 ≤ℤ low
    le_from h = grind (arith, ints, h)

    by_test : (t : Bool) → (t ≡ true → pos 0 ≤ℤ low) → let n = if t then int_max (low -ℤ by) (pos 0) else low -ℤ by in (unsigned_abs n ≤ 2 ^ 30) × (n ≤ℤ low)
    by_test true h = let up = h refl in (omega (arith, ints, clamps, near, small.some, small.few, up), omega (arith, ints, clamps, small.some, up))
    by_test false h = (omega (arith, ints, near, small.some, small.few), omega (arith, ints, small.some))

raised_end : (by high : ℤ) → IsSmallWidening by → unsigned_abs high ≤ 600000000 → (unsigned_abs (end_widened_by by high) ≤ 2 ^ 30) × (high ≤ℤ end_widened_by by high)
raised_end by high small near = by_test (int_le high (pos 0)) (λ h. le_from h)
  where
    le_from : int_le high (pos 0) ≡ true → high ≤ℤ pos 0
    le_from h = grind (arith, ints, h)

    by_test : (t : Bool) → (t ≡ true → high ≤ℤ pos 0) → let n = if t then int_min (high +ℤ by) (pos 0) else high +ℤ by in (unsigned_abs n ≤ 2 ^ 30) × (high ≤ℤ n)
    by_test true h = let down = h refl in (omega (arith, ints, clamps, near, small.some, small.few, down), omega (arith, ints, clamps, small.some, down))
    by_test false h = (omega (arith, ints, near, small.some, small.few), omega (arith, ints, small.some))

-- a rectangle that is tested: in range, and with an interior
pub record IsTested (r : Rect) : Type 0 where
  pub in_range : IsInRange r
  pub interior : HasInterior r

-- a rectangle across the bed of a box that lies near
record IsNearRect (r : Rect) : Type 0 where
  y0 : unsigned_abs r.y0 ≤ 600000000
  y1 : unsigned_abs r.y1 ≤ 600000000
  z0 : unsigned_abs r.z0 ≤ 600000000
  z1 : unsigned_abs r.z1 ≤ 600000000
  wide : r.y0 <ℤ r.y1
  high : r.z0 <ℤ r.z1

widened_tested : (by : ℤ) (r : Rect) → IsSmallWidening by → IsNearRect r → IsTested (widened_by by r)
widened_tested by r small near =
    let low = lowered_end by r.y0 small near.y0 in
    let high = raised_end by r.y1 small near.y1 in
    record {
      in_range = record { y0 = low.0; y1 = high.0; z0 = omega (arith, near.z0); z1 = omega (arith, near.z1) };
      interior = record { wide = omega (arith, ints, low.1, near.wide, high.1); high = near.high };
    }

across_near : (box : PoseBox) → IsNearPoseBox box → IsSolidPoseBox box → IsNearRect (across box.body)
across_near box near solid = record { y0 = near.lo.y; y1 = near.hi.y; z0 = near.lo.z; z1 = near.hi.z; wide = solid.y; high = solid.z }

seen_near : (half : Half) (r : Rect) → IsNearRect r → IsNearRect (seen_from half r)
seen_near Back r near = near
seen_near Front r near = record { y0 = omega (arith, ints, near.y1); y1 = omega (arith, ints, near.y0); z0 = near.z0; z1 = near.z1; wide = omega (arith, ints, near.wide); high = near.high }

-- what a box sweeps with
pub moving_tested : (job : JobData) → IsJob job → (box : PoseBox) → IsNearPoseBox box → IsSolidPoseBox box → IsTested (moving_rect job box)
moving_tested job fit box near solid = widened_tested (widening job) (seen_from box.half (across box.body)) (small_widening job fit) (seen_near box.half (across box.body) (across_near box near solid))
