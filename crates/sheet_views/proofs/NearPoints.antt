-- The points that the side views show lie near, and so does the least rectangle that holds them.
use Rattle.std.proofs.Common.{◌≡◌, ℕ, ◌≤◌, ◌^◌, ℤ, pos, negsuc, neg_ℤ, ◌+ℤ◌, ◌-ℤ◌, ◌*ℤ◌, ◌≤ℤ◌, unsigned_abs, List, [], ◌∷◌, ◌++◌, Option, Some, None, refl, arith}
use Rattle.std.specs.Prelude.{All, flat_map, IfSome}
use Rattle.std.specs.Int.{int_div_euclid, int_min, int_max}
use Rattle.std.proofs.lemmas.Int.{ints, clamps}
use Rattle.std.proofs.lemmas.List.Elements.{All-nil, All-cons, All-head, All-append, All-weaker}
use Rattle.brake_base.specs.declared.plane.Rect.{Rect}
use Rattle.brake_base.specs.declared.space.Box3.{Box3}
use Rattle.brake_base.specs.declared.stroke.Half.{Half}
use Rattle.brake_base.specs.declared.stroke.Half.TheVariants.{Back, Front}
use Rattle.brake_base.specs.Boxes.{IsBoxWithin}
use Rattle.fold_boxes.specs.declared.posed_part.PoseBox.{PoseBox}
use Rattle.fold_boxes.specs.Posing.{IsNearPoseBox}
use Rattle.job_setup.specs.Setup.{StageData, JobData}
use Rattle.job_setup.specs.StageOf.{stage_of}
use Rattle.job_setup.specs.ValidJob.{IsStage}
use Rattle.job_setup.proofs.BoxByBox.{all_flat_map}
use Rattle.sheet_views.specs.declared.fingers.Fingers.{Fingers}
use Rattle.sheet_views.specs.declared.side_view.Point.{Point}
use Rattle.sheet_views.specs.SideArea.{point, die_reach, tool_corners, turned, swept, box_corners, far_corners, finger_corners, shown_points, IsInRect, IsLeastRect}
use Rattle.sheet_views.specs.Near.{IsNearFingers, IsNearArea}

-- all points whose coordinates are within 2^40 of 0
abbrev whole : Rect
whole = record { y0 = neg_ℤ (pos (2 ^ 40)); y1 = pos (2 ^ 40); z0 = neg_ℤ (pos (2 ^ 40)); z1 = pos (2 ^ 40) }

within : (y z : ℤ) → unsigned_abs y ≤ 2 ^ 40 → unsigned_abs z ≤ 2 ^ 40 → IsInRect whole (point y z)
within y z near_y near_z = record { front = omega (arith, ints, near_y); back = omega (arith, ints, near_y); low = omega (arith, ints, near_z); high = omega (arith, ints, near_z) }

seventh : (n : ℤ) → unsigned_abs (int_div_euclid n (pos 7)) ≤ unsigned_abs n
seventh (pos n) = omega arith
seventh (negsuc n) = omega arith

turned_within : (n : ℤ) → unsigned_abs n ≤ 1200000000 → unsigned_abs (int_div_euclid (pos 5 *ℤ n) (pos 7)) ≤ 2 ^ 40
turned_within n near =
    let long : unsigned_abs (pos 5 *ℤ n) ≤ 6000000000 = omega (arith, ints, near) in
    omega (arith, seventh (pos 5 *ℤ n), long)

sum_within : (y z : ℤ) → unsigned_abs y ≤ 600000000 → unsigned_abs z ≤ 600000000 → unsigned_abs (y +ℤ z) ≤ 1200000000
sum_within y z near_y near_z = omega (arith, ints, near_y, near_z)

difference_within : (y z : ℤ) → unsigned_abs y ≤ 600000000 → unsigned_abs z ≤ 600000000 → unsigned_abs (y -ℤ z) ≤ 1200000000
difference_within y z near_y near_z = omega (arith, ints, near_y, near_z)

both : (p q : Point) → IsInRect whole p → IsInRect whole q → All (IsInRect whole) (p ∷ q ∷ [])
both p q first second = All-cons (IsInRect whole) p (q ∷ []) first (All-cons (IsInRect whole) q [] second (All-nil (IsInRect whole)))

swept_within : (half : Half) (y z : ℤ) → unsigned_abs y ≤ 600000000 → unsigned_abs z ≤ 600000000 → All (IsInRect whole) (swept half (point y z))
swept_within Back y z near_y near_z =
    both (point y z) (turned Back (point y z)) (within y z (omega (arith, near_y)) (omega (arith, near_z)))
    (within (int_div_euclid (pos 5 *ℤ (y -ℤ z)) (pos 7)) (int_div_euclid (pos 5 *ℤ (y +ℤ z)) (pos 7)) (turned_within (y -ℤ z) (difference_within y z near_y near_z)) (turned_within (y +ℤ z) (sum_within y z near_y near_z)))
swept_within Front y z near_y near_z =
    both (point y z) (turned Front (point y z)) (within y z (omega (arith, near_y)) (omega (arith, near_z)))
    (within (int_div_euclid (pos 5 *ℤ (y +ℤ z)) (pos 7)) (int_div_euclid (pos 5 *ℤ (z -ℤ y)) (pos 7)) (turned_within (y +ℤ z) (sum_within y z near_y near_z)) (turned_within (z -ℤ y) (difference_within z y near_z near_y)))

box_within : (b : PoseBox) → IsNearPoseBox b → All (IsInRect whole) (box_corners b)
box_within b near =
    let at = λ (y z : ℤ). swept b.half (point y z) in
    let lo = b.body.lo in
    let hi = b.body.hi in
    All-append (IsInRect whole) (at lo.y lo.z) (at hi.y lo.z ++ (at lo.y hi.z ++ at hi.y hi.z)) (swept_within b.half lo.y lo.z near.lo.y near.lo.z)
    (All-append (IsInRect whole) (at hi.y lo.z) (at lo.y hi.z ++ at hi.y hi.z) (swept_within b.half hi.y lo.z near.hi.y near.lo.z)
    (All-append (IsInRect whole) (at lo.y hi.z) (at hi.y hi.z) (swept_within b.half lo.y hi.z near.lo.y near.hi.z) (swept_within b.half hi.y hi.z near.hi.y near.hi.z)))

far_within : (finger : Box3) → IsBoxWithin (2 ^ 40) finger → All (IsInRect whole) (far_corners finger)
far_within finger near = both (point finger.hi.y finger.lo.z) (point finger.hi.y finger.hi.z) (within finger.hi.y finger.lo.z near.hi.y near.lo.z) (within finger.hi.y finger.hi.z near.hi.y near.hi.z)

fingers_within : (fingers : Option Fingers) → IfSome fingers IsNearFingers → All (IsInRect whole) (finger_corners fingers)
fingers_within None near = All-nil (IsInRect whole)
fingers_within (Some fingers) near = All-append (IsInRect whole) (far_corners fingers.left) (far_corners fingers.right) (far_within fingers.left near.left) (far_within fingers.right near.right)

reach_within : (far v : ℤ) → pos 0 ≤ℤ v → v ≤ℤ pos 1000000 → unsigned_abs (int_min (int_max far v) (pos 3 *ℤ v)) ≤ 3000000
reach_within far v low high = omega (arith, ints, clamps, low, high)

tools_within : (t : ℤ) (stage : StageData) → IsStage stage → pos 0 ≤ℤ t → t ≤ℤ pos 50000 → All (IsInRect whole) (tool_corners t stage)
tools_within t stage fit thin thick =
    let v = fit.die.sizes.v.range in
    let nose = fit.punch.sizes.nose in
    let height = fit.punch.sizes.height in
    let reach : unsigned_abs (die_reach stage) ≤ 3000000 = reach_within _ stage.die.v (omega (arith, ints, v.bottom)) (omega (arith, ints, v.top)) in
    both (point (neg_ℤ (die_reach stage)) (neg_ℤ t -ℤ stage.die.v)) (point (die_reach stage) (int_max (pos 2 *ℤ stage.punch.nose) (pos 2 *ℤ stage.die.v)))
    (within _ _ (omega (arith, ints, reach)) (omega (arith, ints, thin, thick, v.bottom, v.top)))
    (within _ _ (omega (arith, reach)) (omega (arith, ints, clamps, v.bottom, v.top, nose.bottom, nose.top, height.bottom, height.top)))

shown_within : (job : JobData) (stage : ℕ) (boxes : List PoseBox) (fingers : Option Fingers) → IsStage (stage_of job stage) → pos 0 ≤ℤ job.part.thickness → job.part.thickness ≤ℤ pos 50000 → All IsNearPoseBox boxes → IfSome fingers IsNearFingers
    → All (IsInRect whole) (shown_points job stage boxes fingers)
shown_within job stage boxes fingers fit thin thick near fingers_near =
    let tools = tool_corners job.part.thickness (stage_of job stage) in
    let part = flat_map box_corners boxes in
    All-append (IsInRect whole) (tools ++ part) (finger_corners fingers)
    (All-append (IsInRect whole) tools part (tools_within job.part.thickness (stage_of job stage) fit thin thick)
    (all_flat_map (IsInRect whole) box_corners boxes (All-weaker IsNearPoseBox (λ (b : PoseBox). All (IsInRect whole) (box_corners b)) box_within boxes near)))
    (fingers_within fingers fingers_near)

end_within : (low high from to p : ℤ) → low ≤ℤ from → from ≤ℤ p → p ≤ℤ to → to ≤ℤ high → low ≡ neg_ℤ (pos (2 ^ 40)) → high ≡ pos (2 ^ 40) → (unsigned_abs from ≤ 2 ^ 40) × (unsigned_abs to ≤ 2 ^ 40)
end_within low high from to p a b c d e f = (omega (arith, ints, a, b, c, d, e, f), omega (arith, ints, a, b, c, d, e, f))

least_within : (p : Point) (points : List Point) (r : Rect) → IsLeastRect (p ∷ points) r → All (IsInRect whole) (p ∷ points) → IsNearArea r
least_within p points r fits inside =
    let inner = fits.least whole inside in
    let held = All-head (IsInRect r) p points fits.holds in
    let y = end_within whole.y0 whole.y1 r.y0 r.y1 p.y inner.front held.front held.back inner.back refl refl in
    let z = end_within whole.z0 whole.z1 r.z0 r.z1 p.z inner.low held.low held.high inner.high refl refl in
    record { y0 = y.0; y1 = y.1; z0 = z.0; z1 = z.1 }

pub area_near : (job : JobData) (stage : ℕ) (boxes : List PoseBox) (fingers : Option Fingers) (r : Rect) → IsLeastRect (shown_points job stage boxes fingers) r → IsStage (stage_of job stage) → pos 0 ≤ℤ job.part.thickness → job.part.thickness ≤ℤ pos 50000 → All IsNearPoseBox boxes → IfSome fingers IsNearFingers
    → IsNearArea r
area_near job stage boxes fingers r fits fit thin thick near fingers_near = least_within _ _ r fits (shown_within job stage boxes fingers fit thin thick near fingers_near)
