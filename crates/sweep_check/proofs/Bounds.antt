-- The rectangles that are tested lie near, and have an interior.
use Rattle.std.proofs.Common.{◌≡◌, ◌∙◌, ℕ, ◌+◌, ◌<◌, ◌≤◌, ◌^◌, ℤ, pos, neg_ℤ, ◌+ℤ◌, ◌-ℤ◌, ◌≤ℤ◌, unsigned_abs, List, [], ◌∷◌, map, length, refl, ap, arith}
use Rattle.std.specs.Prelude.{All}
use Rattle.std.specs.List.{enumerate_from}
use Rattle.std.proofs.lemmas.Int.{ints, clamps}
use Rattle.std.proofs.lemmas.List.Elements.{All-nil, All-cons, All-head, All-tail}
use Rattle.algebra.proofs.Widths.{abs_in, abs_out, abs-neg}
use Rattle.brake_base.specs.declared.plane.Rect.{Rect}
use Rattle.brake_base.specs.declared.stroke.Half.{Half}
use Rattle.brake_base.specs.declared.stroke.Half.TheVariants.{Back, Front}
use Rattle.machine_file.specs.declared.machine.Fixed.{Fixed}
use Rattle.fold_boxes.specs.declared.posed_part.PoseBox.{PoseBox}
use Rattle.sector_geom.specs.Plane.{HasInterior, IsInRange}
use Rattle.sector_geom.specs.Pieces.{start_widened_by, end_widened_by, widened_by}
use Rattle.tool_library.specs.Tools.{IsDie}
use Rattle.job_setup.specs.declared.setup.Stage.{Stage}
use Rattle.job_setup.specs.Setup.{StageData, JobData, stage_data}
use Rattle.job_setup.specs.StageOf.{no_stage, stage_of}
use Rattle.job_setup.specs.ValidJob.{IsStage, IsJob}
use Rattle.job_setup.specs.Obstacles.{upper_boxes, lower_boxes, half_opening, upper_obstacle, lower_obstacle, upper_group, lower_group}
use Rattle.job_setup.specs.Reasons.{across, seen_from, widening, moving_rect}
use Rattle.job_setup.proofs.BoxByBox.{half_bounds}
use Rattle.job_setup.proofs.Solid.{IsSolid, upper_solid, lower_solid}
use Rattle.sweep_check.specs.Pieces.{IsSolidBox, front_obstacle}
use Rattle.sweep_check.proofs.StrokeBoxes.{small_widening}
use Rattle.sweep_check.specs.declared.noses.PunchNose.{PunchNose}
use Rattle.sweep_check.specs.Hits.{IsSolidObstacle, IsNose, nose_of, stage_nose}

pub record IsRectWithin (n : ℕ) (r : Rect) : Type 0 where
  pub y0 : unsigned_abs r.y0 ≤ n
  pub y1 : unsigned_abs r.y1 ≤ n
  pub z0 : unsigned_abs r.z0 ≤ n
  pub z1 : unsigned_abs r.z1 ≤ n

pub seen_within : (half : Half) (n : ℕ) (r : Rect) → IsRectWithin n r → IsRectWithin n (seen_from half r)
seen_within Back n r h = h
seen_within Front n r h = record { y0 = rw (abs-neg r.y1) h.y1; y1 = rw (abs-neg r.y0) h.y0; z0 = h.z0; z1 = h.z1 }

pub seen_interior : (half : Half) (r : Rect) → HasInterior r → HasInterior (seen_from half r)
seen_interior Back r h = h
seen_interior Front r h = record { wide = let wide = h.wide in omega (arith, ints, wide); high = h.high }

pub seen_in_range : (half : Half) (r : Rect) → IsInRange r → IsInRange (seen_from half r)
seen_in_range half r h = let s = seen_within half (2 ^ 30) r (record { y0 = h.y0; y1 = h.y1; z0 = h.z0; z1 = h.z1 }) in record { y0 = s.y0; y1 = s.y1; z0 = s.z0; z1 = s.z1 }

lowered_bounds : (by low : ℤ) → pos 0 ≤ℤ by → by ≤ℤ pos 100000 → neg_ℤ (pos 600000000) ≤ℤ low → low ≤ℤ pos 600000000 → (neg_ℤ (pos 600100000) ≤ℤ start_widened_by by low) × (start_widened_by by low ≤ℤ pos 600100000)
lowered_bounds by low not_negative small above below = (grind (arith, ints, clamps), grind (arith, ints, clamps))

raised_bounds : (by high : ℤ) → pos 0 ≤ℤ by → by ≤ℤ pos 100000 → neg_ℤ (pos 600000000) ≤ℤ high → high ≤ℤ pos 600000000 → (neg_ℤ (pos 600100000) ≤ℤ end_widened_by by high) × (end_widened_by by high ≤ℤ pos 600100000)
raised_bounds by high not_negative small above below = (grind (arith, ints, clamps), grind (arith, ints, clamps))

lowered_below : (by low : ℤ) → pos 0 ≤ℤ by → start_widened_by by low ≤ℤ low
lowered_below by low h = grind (arith, ints, clamps)

raised_above : (by high : ℤ) → pos 0 ≤ℤ by → high ≤ℤ end_widened_by by high
raised_above by high h = grind (arith, ints, clamps)

far_in_range : (n : ℤ) → neg_ℤ (pos 600100000) ≤ℤ n → n ≤ℤ pos 600100000 → unsigned_abs n ≤ 2 ^ 30
far_in_range n above below = abs_in n (2 ^ 30) (omega (arith, ints, below)) (omega (arith, ints, above))

near_in_range : (n : ℤ) → unsigned_abs n ≤ 600000000 → unsigned_abs n ≤ 2 ^ 30
near_in_range n h = omega (arith, h)

pub widened_in_range : (by : ℤ) (r : Rect) → pos 0 ≤ℤ by → by ≤ℤ pos 100000 → IsRectWithin 600000000 r → IsInRange (widened_by by r)
widened_in_range by r not_negative small h =
    let y0 = abs_out r.y0 600000000 h.y0 in
    let y1 = abs_out r.y1 600000000 h.y1 in
    let low = lowered_bounds by r.y0 not_negative small (omega (arith, ints, y0.1)) y0.0 in
    let high = raised_bounds by r.y1 not_negative small (omega (arith, ints, y1.1)) y1.0 in
    record { y0 = far_in_range (start_widened_by by r.y0) low.0 low.1; y1 = far_in_range (end_widened_by by r.y1) high.0 high.1; z0 = near_in_range r.z0 h.z0; z1 = near_in_range r.z1 h.z1 }

pub widened_interior : (by : ℤ) (r : Rect) → pos 0 ≤ℤ by → HasInterior r → HasInterior (widened_by by r)
widened_interior by r not_negative h =
    let low = lowered_below by r.y0 not_negative in
    let high = raised_above by r.y1 not_negative in
    record { wide = let wide = h.wide in omega (arith, ints, low, high, wide); high = h.high }

not_negative : (n : ℕ) → pos 0 ≤ℤ pos n
not_negative n = omega (arith, ints)

-- the widening of a valid job
pub widening_low : (job : JobData) → pos 0 ≤ℤ widening job
widening_low job = not_negative (unsigned_abs (job.q -ℤ job.part.thickness))

pub widening_high : (job : JobData) → IsJob job → widening job ≤ℤ pos 100000
widening_high job valid = (small_widening job valid).few

across_within : (box : PoseBox) → IsSolidBox box → IsRectWithin 600000000 (across box.body)
across_within box h = record { y0 = h.near.lo.y; y1 = h.near.hi.y; z0 = h.near.lo.z; z1 = h.near.hi.z }

pub moving_in_range : (job : JobData) (box : PoseBox) → widening job ≤ℤ pos 100000 → IsSolidBox box → IsInRange (moving_rect job box)
moving_in_range job box small h = widened_in_range (widening job) (seen_from box.half (across box.body)) (widening_low job) small (seen_within box.half 600000000 (across box.body) (across_within box h))

pub seen_box_in_range : (box : PoseBox) → IsSolidBox box → IsInRange (seen_from box.half (across box.body))
seen_box_in_range box h =
    let r = seen_from box.half (across box.body) in
    let s = seen_within box.half 600000000 (across box.body) (across_within box h) in
    record { y0 = near_in_range r.y0 s.y0; y1 = near_in_range r.y1 s.y1; z0 = near_in_range r.z0 s.z0; z1 = near_in_range r.z1 s.z1 }

pub front_solid : (job : JobData) (box : PoseBox) → widening job ≤ℤ pos 100000 → IsSolidBox box → IsSolidObstacle (front_obstacle job box)
front_solid job box small h = record {
  interior = widened_interior (widening job) (across box.body) (widening_low job) (record { wide = h.solid.y; high = h.solid.z });
  in_range = widened_in_range (widening job) (across box.body) (widening_low job) small (across_within box h);
}

-- what holds of each numbered item
pub all_numbered : {X Y : Type 0} (Q : X → Type 0) (P : Y → Type 0) (f : ℕ × X → Y) (n : ℕ) (xs : List X) → ((k : ℕ) (x : X) → Q x → P (f (k, x))) → All Q xs → All P (map f (enumerate_from n xs))
all_numbered Q P f n [] each all = All-nil P
all_numbered Q P f n (x ∷ xs) each all = All-cons P (f (n, x)) (map f (enumerate_from (n + 1) xs)) (each n x (All-head Q x xs all)) (all_numbered Q P f (n + 1) xs each (All-tail Q x xs all))

upper_box_solid : (number : ℕ) (box : Fixed) → IsSolid box → IsSolidObstacle (upper_obstacle (number, box))
upper_box_solid number box h = record {
  interior = record { wide = h.wide; high = h.high };
  in_range = record {
    y0 = abs_in box.rect.y0 (2 ^ 30) (omega (arith, ints, h.wide, h.right)) (omega (arith, ints, h.left));
    y1 = abs_in box.rect.y1 (2 ^ 30) (omega (arith, ints, h.right)) (omega (arith, ints, h.wide, h.left));
    z0 = abs_in box.rect.z0 (2 ^ 30) (omega (arith, ints, h.high, h.top)) (omega (arith, ints, h.bottom));
    z1 = abs_in box.rect.z1 (2 ^ 30) (omega (arith, ints, h.top)) (omega (arith, ints, h.high, h.bottom));
  };
}

lower_box_solid : (t half : ℤ) (number : ℕ) (box : Fixed) → pos 0 ≤ℤ t → t ≤ℤ pos 50000 → pos 0 ≤ℤ half → half ≤ℤ pos 500000 → IsSolid box → IsSolidObstacle (lower_obstacle t half (number, box))
lower_box_solid t half number box thin thick narrow wide h = record {
  interior = record { wide = h.wide; high = omega (arith, ints, h.high, narrow) };
  in_range = record {
    y0 = abs_in box.rect.y0 (2 ^ 30) (omega (arith, ints, h.wide, h.right)) (omega (arith, ints, h.left));
    y1 = abs_in box.rect.y1 (2 ^ 30) (omega (arith, ints, h.right)) (omega (arith, ints, h.wide, h.left));
    z0 = abs_in (box.rect.z0 -ℤ t) (2 ^ 30) (omega (arith, ints, h.high, h.top, thin)) (omega (arith, ints, h.bottom, thick));
    z1 = abs_in ((box.rect.z1 -ℤ t) +ℤ half) (2 ^ 30) (omega (arith, ints, h.top, thin, wide)) (omega (arith, ints, h.high, h.bottom, thick, narrow));
  };
}

pub upper_group_solid : (job : JobData) → IsJob job → 0 < length job.setup.stages → All IsSolidObstacle (upper_group job)
upper_group_solid job valid some = all_numbered IsSolid IsSolidObstacle upper_obstacle 0 (upper_boxes job) upper_box_solid (upper_solid job valid some)

pub lower_group_solid : (job : JobData) (stage : ℕ) → IsJob job → stage < length job.setup.stages → All IsSolidObstacle (lower_group job stage)
lower_group_solid job stage valid inside =
    let thick = valid.part.sheet.thickness.range in
    let die : IsDie (stage_of job stage).die = (valid.setup.stages.each stage no_stage inside).die in
    let half = half_bounds (stage_of job stage).die.v die.sizes.v.range.bottom die.sizes.v.range.top in
    all_numbered IsSolid IsSolidObstacle (lower_obstacle job.part.thickness (half_opening (stage_of job stage))) 0 (lower_boxes job)
    (λ k box. lower_box_solid job.part.thickness (half_opening (stage_of job stage)) k box (omega (arith, ints, thick.bottom)) (omega (arith, ints, thick.top)) half.0 half.1)
    (lower_solid job valid (omega (arith, inside)))

stage_nose_is : (number : ℕ) (stage : StageData) → IsStage stage → IsNose (nose_of (number, stage))
stage_nose_is number stage h =
    let nose = h.punch.sizes.nose in
    let height = h.punch.sizes.height in
    record { low = nose.bottom; high = omega (arith, ints, nose.top, height.top) }

pub noses_are : (job : JobData) → IsJob job → All IsNose (map nose_of (enumerate_from 0 job.setup.stages))
noses_are job valid = all_numbered IsStage IsNose nose_of 0 job.setup.stages stage_nose_is valid.setup.stages.each

-- the noses of the code's stages are those of their data
noses_seen : (n : ℕ) (stages : List Stage) → map stage_nose (enumerate_from n stages) ≡ map nose_of (enumerate_from n (map stage_data stages))
noses_seen n [] = refl
noses_seen n (stage ∷ stages) = ap (λ (rest : List PunchNose). nose_of (n, stage_data stage) ∷ rest) (noses_seen (n + 1) stages)

pub noses_listed : (items : List Stage) (stages : List StageData) (noses slice : List PunchNose) → slice ≡ noses → noses ≡ map stage_nose (enumerate_from 0 items) → map stage_data items ≡ stages → slice ≡ map nose_of (enumerate_from 0 stages)
noses_listed items stages noses slice read made same = read ∙ made ∙ noses_seen 0 items ∙ ap (λ (xs : List StageData). map nose_of (enumerate_from 0 xs)) same
