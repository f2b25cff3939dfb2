-- What a refused stroke sweeps, and what it would strike, lies near.
use Rattle.std.proofs.Common.{ℕ, ◌+◌, ◌<◌, ℤ, pos, ◌≤ℤ◌, List, [], ◌∷◌, map, length, arith}
use Rattle.std.specs.Prelude.{All}
use Rattle.std.specs.List.{enumerate_from}
use Rattle.std.proofs.lemmas.Int.{ints}
use Rattle.std.proofs.lemmas.List.Elements.{All-nil, All-cons, All-head, All-tail}
use Rattle.machine_file.specs.declared.machine.Fixed.{Fixed}
use Rattle.tool_library.specs.Tools.{IsDie}
use Rattle.fold_boxes.specs.declared.posed_part.PoseBox.{PoseBox}
use Rattle.fold_boxes.specs.Posing.{IsNearPoseBox}
use Rattle.job_setup.specs.declared.obstacle.Obstacle.{Obstacle}
use Rattle.job_setup.specs.Setup.{JobData}
use Rattle.job_setup.specs.StageOf.{no_stage, stage_of}
use Rattle.job_setup.specs.ValidJob.{IsJob}
use Rattle.job_setup.specs.Obstacles.{upper_boxes, lower_boxes, half_opening, upper_obstacle, lower_obstacle, upper_group, lower_group}
use Rattle.job_setup.specs.Reasons.{across}
use Rattle.job_setup.proofs.BoxByBox.{half_bounds}
use Rattle.job_setup.proofs.Solid.{IsSolid, upper_solid, lower_solid}
use Rattle.sheet_views.specs.Near.{IsNearArea}

pub across_near : (b : PoseBox) → IsNearPoseBox b → IsNearArea (across b.body)
across_near b near = record {
  y0 = (let h = near.lo.y in omega (arith, h));
  y1 = (let h = near.hi.y in omega (arith, h));
  z0 = (let h = near.lo.z in omega (arith, h));
  z1 = (let h = near.hi.z in omega (arith, h));
}

-- what holds of what is made of each numbered item
numbered_near : (f : ℕ × Fixed → Obstacle) (n : ℕ) (boxes : List Fixed) → ((k : ℕ) (b : Fixed) → IsSolid b → IsNearArea (f (k, b)).rect) → All IsSolid boxes → All (λ (o : Obstacle). IsNearArea o.rect) (map f (enumerate_from n boxes))
numbered_near f n [] each all = All-nil (λ (o : Obstacle). IsNearArea o.rect)
numbered_near f n (b ∷ boxes) each all =
    All-cons (λ (o : Obstacle). IsNearArea o.rect) (f (n, b)) (map f (enumerate_from (n + 1) boxes)) (each n b (All-head IsSolid b boxes all)) (numbered_near f (n + 1) boxes each (All-tail IsSolid b boxes all))

upper_box_near : (k : ℕ) (b : Fixed) → IsSolid b → IsNearArea (upper_obstacle (k, b)).rect
upper_box_near k b h = record {
  y0 = omega (arith, ints, h.wide, h.left, h.right);
  y1 = omega (arith, ints, h.wide, h.left, h.right);
  z0 = omega (arith, ints, h.high, h.bottom, h.top);
  z1 = omega (arith, ints, h.high, h.bottom, h.top);
}

lower_box_near : (t half : ℤ) → pos 0 ≤ℤ t → t ≤ℤ pos 50000 → pos 0 ≤ℤ half → half ≤ℤ pos 500000 → (k : ℕ) (b : Fixed) → IsSolid b → IsNearArea (lower_obstacle t half (k, b)).rect
lower_box_near t half thin thick narrow wide k b h = record {
  y0 = omega (arith, ints, h.wide, h.left, h.right);
  y1 = omega (arith, ints, h.wide, h.left, h.right);
  z0 = omega (arith, ints, h.high, h.bottom, h.top, thin, thick);
  z1 = omega (arith, ints, h.high, h.bottom, h.top, thin, thick, narrow, wide);
}

pub upper_near : (job : JobData) → IsJob job → 0 < length job.setup.stages → All (λ (o : Obstacle). IsNearArea o.rect) (upper_group job)
upper_near job valid some = numbered_near upper_obstacle 0 (upper_boxes job) upper_box_near (upper_solid job valid some)

pub lower_near : (job : JobData) (stage : ℕ) → IsJob job → stage < length job.setup.stages → All (λ (o : Obstacle). IsNearArea o.rect) (lower_group job stage)
lower_near job stage valid inside =
    let thick = valid.part.sheet.thickness.range in
    let die : IsDie (stage_of job stage).die = (valid.setup.stages.each stage no_stage inside).die in
    let half = half_bounds (stage_of job stage).die.v die.sizes.v.range.bottom die.sizes.v.range.top in
    numbered_near (lower_obstacle job.part.thickness (half_opening (stage_of job stage))) 0 (lower_boxes job)
    (lower_box_near job.part.thickness (half_opening (stage_of job stage)) (omega (arith, ints, thick.bottom)) (omega (arith, ints, thick.top)) half.0 half.1) (lower_solid job valid (omega (arith, inside)))
