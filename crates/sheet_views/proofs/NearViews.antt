-- What is drawn lies near.
use Rattle.std.proofs.Common.{ℕ, ◌≤◌, ◌^◌, Bool, ℤ, unsigned_abs, List, arith}
use Rattle.std.specs.Prelude.{All}
use Rattle.std.proofs.lemmas.Int.{ints}
use Rattle.std.proofs.lemmas.List.Elements.{All-map, All-weaker}
use Rattle.brake_base.specs.Boxes.{IsBoxWithin}
use Rattle.fold_boxes.specs.declared.posed_part.PoseBox.{PoseBox}
use Rattle.fold_boxes.specs.Pose.{PoseData}
use Rattle.fold_boxes.specs.Posing.{IsNearPoseBox}
use Rattle.job_setup.specs.Setup.{JobData}
use Rattle.job_setup.specs.ValidJob.{IsJob}
use Rattle.job_setup.specs.LegalGauge.{far_edge, left_finger, right_finger, finger_box}
use Rattle.job_setup.proofs.Near.{setup_near}
use Rattle.sheet_views.specs.Fingers.{fingers_against}
use Rattle.sheet_views.specs.Marked.{marked, marked_before}
use Rattle.sheet_views.specs.Near.{IsNearFingers, AreNearBoxes}

pub near_box : (b : PoseBox) → IsNearPoseBox b → IsBoxWithin (2 ^ 40) b.body
near_box b near = record {
  lo = record { x = (let h = near.lo.x in omega (arith, h)); y = (let h = near.lo.y in omega (arith, h)); z = (let h = near.lo.z in omega (arith, h)) };
  hi = record { x = (let h = near.hi.x in omega (arith, h)); y = (let h = near.hi.y in omega (arith, h)); z = (let h = near.hi.z in omega (arith, h)) };
}

pub near_before : (moves : ℕ → Bool) (pose : PoseData) (boxes : List PoseBox) → All IsNearPoseBox boxes → AreNearBoxes (marked_before moves pose boxes)
near_before moves pose boxes near =
    All-map (λ b. IsBoxWithin (2 ^ 40) b.body) (λ (b : PoseBox). marked moves pose b.id b.body) boxes
    (All-weaker IsNearPoseBox (λ (b : PoseBox). IsBoxWithin (2 ^ 40) b.body) near_box boxes near)

-- a finger behind an edge, over a range
near_finger : (job : JobData) → IsJob job → (edge : ℤ) (range : ℤ × ℤ) → unsigned_abs edge ≤ 600000000 → unsigned_abs range.0 ≤ 2 ^ 39 → unsigned_abs range.1 ≤ 2 ^ 39 → IsBoxWithin (2 ^ 40) (finger_box job.setup.gauge job.part.thickness edge range)
near_finger job valid edge range near from to =
    let gauge = (setup_near job valid).gauge in
    let thick = valid.part.sheet.thickness.range in
    record {
      lo = record { x = omega (arith, from); y = omega (arith, near); z = (let below = gauge.below in omega (arith, ints, below.0, below.1, thick.bottom, thick.top)) };
      hi = record { x = omega (arith, to); y = (let depth = gauge.depth in omega (arith, ints, near, depth.0, depth.1)); z = (let above = gauge.above in omega (arith, ints, above.0, above.1)) };
    }

pub near_fingers : (job : JobData) → IsJob job → (left right : PoseBox) → IsNearPoseBox left → IsNearPoseBox right → IsNearFingers (fingers_against job left right)
near_fingers job valid left right near_left near_right =
    let rule = job.setup.gauge in
    let gauge = (setup_near job valid).gauge in
    let inset = gauge.inset in
    let finger = gauge.finger in
    let lo = near_left.lo.x in
    let hi = near_right.hi.x in
    let edge = near_left.hi.y in
    record {
      edge = omega (arith, edge);
      left = near_finger job valid (far_edge left) (left_finger rule left) edge (omega (arith, ints, lo, inset.0, inset.1)) (omega (arith, ints, lo, inset.0, inset.1, finger.0, finger.1));
      right = near_finger job valid (far_edge left) (right_finger rule right) edge (omega (arith, ints, hi, inset.0, inset.1, finger.0, finger.1)) (omega (arith, ints, hi, inset.0, inset.1));
    }
