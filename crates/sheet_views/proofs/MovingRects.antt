-- What a box of a pose sweeps with lies near enough for a cover.
use Rattle.std.proofs.Common.{◌≤◌, ◌^◌, ℤ, pos, neg_ℤ, ◌≤ℤ◌, unsigned_abs, arith}
use Rattle.std.proofs.lemmas.Int.{ints, clamps}
use Rattle.algebra.proofs.Widths.{abs_in, abs_out, abs-neg}
use Rattle.brake_base.specs.declared.plane.Rect.{Rect}
use Rattle.brake_base.specs.declared.stroke.Half.{Half}
use Rattle.brake_base.specs.declared.stroke.Half.TheVariants.{Back, Front}
use Rattle.fold_boxes.specs.declared.posed_part.PoseBox.{PoseBox}
use Rattle.fold_boxes.specs.Posing.{IsNearPoseBox}
use Rattle.sector_geom.specs.Plane.{IsInRange}
use Rattle.sector_geom.specs.Pieces.{start_widened_by, end_widened_by, widened_by}
use Rattle.job_setup.specs.Setup.{JobData}
use Rattle.job_setup.specs.Reasons.{across, seen_from, widening, moving_rect}

-- all four ends are at most 600,000,000 micrometres away from 0
record HasNearEnds (r : Rect) : Type 0 where
  y0 : unsigned_abs r.y0 ≤ 600000000
  y1 : unsigned_abs r.y1 ≤ 600000000
  z0 : unsigned_abs r.z0 ≤ 600000000
  z1 : unsigned_abs r.z1 ≤ 600000000

seen_near : (half : Half) (r : Rect) → HasNearEnds r → HasNearEnds (seen_from half r)
seen_near Back r h = h
seen_near Front r h = record { y0 = rw (abs-neg r.y1) h.y1; y1 = rw (abs-neg r.y0) h.y0; z0 = h.z0; z1 = h.z1 }

in_range : (n : ℤ) → unsigned_abs n ≤ 600000000 → unsigned_abs n ≤ 2 ^ 30
in_range n h = omega (arith, h)

lowered : (by low : ℤ) → pos 0 ≤ℤ by → by ≤ℤ pos 100000 → neg_ℤ (pos 600000000) ≤ℤ low → low ≤ℤ pos 600000000 → (neg_ℤ (pos 600100000) ≤ℤ start_widened_by by low) × (start_widened_by by low ≤ℤ pos 600100000)
lowered by low not_negative small above below = (grind (arith, ints, clamps), grind (arith, ints, clamps))

raised : (by high : ℤ) → pos 0 ≤ℤ by → by ≤ℤ pos 100000 → neg_ℤ (pos 600000000) ≤ℤ high → high ≤ℤ pos 600000000 → (neg_ℤ (pos 600100000) ≤ℤ end_widened_by by high) × (end_widened_by by high ≤ℤ pos 600100000)
raised by high not_negative small above below = (grind (arith, ints, clamps), grind (arith, ints, clamps))

far_in_range : (n : ℤ) → neg_ℤ (pos 600100000) ≤ℤ n → n ≤ℤ pos 600100000 → unsigned_abs n ≤ 2 ^ 30
far_in_range n above below = abs_in n (2 ^ 30) (omega (arith, ints, below)) (omega (arith, ints, above))

widened_in_range : (by : ℤ) (r : Rect) → pos 0 ≤ℤ by → by ≤ℤ pos 100000 → HasNearEnds r → IsInRange (widened_by by r)
widened_in_range by r not_negative small h =
    let y0 = abs_out r.y0 600000000 h.y0 in
    let y1 = abs_out r.y1 600000000 h.y1 in
    let low = lowered by r.y0 not_negative small (omega (arith, ints, y0.1)) y0.0 in
    let high = raised by r.y1 not_negative small (omega (arith, ints, y1.1)) y1.0 in
    record { y0 = far_in_range (start_widened_by by r.y0) low.0 low.1; y1 = far_in_range (end_widened_by by r.y1) high.0 high.1; z0 = in_range r.z0 h.z0; z1 = in_range r.z1 h.z1 }

seen_box : (box : PoseBox) → IsNearPoseBox box → HasNearEnds (seen_from box.half (across box.body))
seen_box box near = seen_near box.half (across box.body) (record { y0 = near.lo.y; y1 = near.hi.y; z0 = near.lo.z; z1 = near.hi.z })

pub seen_box_in_range : (box : PoseBox) → IsNearPoseBox box → IsInRange (seen_from box.half (across box.body))
seen_box_in_range box near =
    let r = seen_from box.half (across box.body) in
    let s = seen_box box near in
    record { y0 = in_range r.y0 s.y0; y1 = in_range r.y1 s.y1; z0 = in_range r.z0 s.z0; z1 = in_range r.z1 s.z1 }

pub moving_in_range : (job : JobData) (box : PoseBox) → pos 0 ≤ℤ widening job → widening job ≤ℤ pos 100000 → IsNearPoseBox box → IsInRange (moving_rect job box)
moving_in_range job box not_negative small near = widened_in_range (widening job) (seen_from box.half (across box.body)) not_negative small (seen_box box near)
