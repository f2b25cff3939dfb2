-- The obstacles of a valid job have an interior, and lie near.
use Rattle.std.proofs.Common.{◌≡◌, ℕ, ◌<◌, ◌≤◌, ℤ, pos, neg_ℤ, ◌+ℤ◌, ◌≤ℤ◌, ◌<ℤ◌, List, ◌++◌, map, length, get_or, sym, subst, arith}
use Rattle.std.specs.Prelude.{All}
use Rattle.std.proofs.lemmas.Int.{ints}
use Rattle.std.proofs.lemmas.List.Elements.{All-append, All-map}
use Rattle.std.specs.List.{flat_map}
use Rattle.brake_base.specs.declared.plane.Rect.{Rect}
use Rattle.machine_file.specs.declared.machine.Fixed.{Fixed}
use Rattle.machine_file.specs.Machine.{coordinate_limit, IsFixed}
use Rattle.tool_library.specs.Tools.{IsBodyBox}
use Rattle.unfolder.specs.Extent.{IsNear}
use Rattle.job_setup.specs.Setup.{StageData, JobData}
use Rattle.job_setup.specs.StageOf.{no_stage, stage_of}
use Rattle.job_setup.specs.ValidJob.{IsStage, IsJob}
use Rattle.job_setup.specs.Near.{IsNearBox, IsNearStage}
use Rattle.job_setup.specs.Obstacles.{raised_box, along_stage, upper_boxes, lower_boxes}
use Rattle.job_setup.proofs.Near.{setup_near}
use Rattle.job_setup.proofs.BoxByBox.{all_flat_map}

-- a box with an interior across the bed, within 22 m of 0 there
pub record IsSolid (box : Fixed) : Type 0 where
  pub x0 : IsNear box.x0
  pub x1 : IsNear box.x1
  pub wide : box.rect.y0 <ℤ box.rect.y1
  pub high : box.rect.z0 <ℤ box.rect.z1
  pub left : neg_ℤ (pos 22000000) ≤ℤ box.rect.y0
  pub right : box.rect.y1 ≤ℤ pos 22000000
  pub bottom : neg_ℤ (pos 22000000) ≤ℤ box.rect.z0
  pub top : box.rect.z1 ≤ℤ pos 22000000

pub solid_near : (box : Fixed) → IsSolid box → IsNearBox box
solid_near box solid = record {
  x0 = solid.x0;
  x1 = solid.x1;
  y0 = (omega (arith, ints, solid.left), omega (arith, ints, solid.wide, solid.right));
  y1 = (omega (arith, ints, solid.left, solid.wide), omega (arith, ints, solid.right));
  z0 = (omega (arith, ints, solid.bottom), omega (arith, ints, solid.high, solid.top));
  z1 = (omega (arith, ints, solid.bottom, solid.high), omega (arith, ints, solid.top));
}

raised_solid : (low high by : ℤ) (box : Fixed) → IsFixed low high box → neg_ℤ coordinate_limit ≤ℤ low → high ≤ℤ coordinate_limit → neg_ℤ (pos 1000000) ≤ℤ by → by ≤ℤ pos 1000000 → IsSolid (raised_box by box)
raised_solid low high by box fit bottom top down up = record {
  x0 = (omega (arith, ints, fit.footprint.along.bottom), omega (arith, ints, fit.footprint.along.order, fit.footprint.along.top));
  x1 = (omega (arith, ints, fit.footprint.along.bottom, fit.footprint.along.order), omega (arith, ints, fit.footprint.along.top));
  wide = fit.footprint.across.order;
  high = omega (arith, ints, fit.upwards.order);
  left = omega (arith, ints, fit.footprint.across.bottom);
  right = omega (arith, ints, fit.footprint.across.top);
  bottom = omega (arith, ints, fit.upwards.bottom, bottom, down);
  top = omega (arith, ints, fit.upwards.top, top, up);
}

profile_solid : (low high : ℤ) (stage : StageData) (profile : Rect) → IsNearStage stage → IsBodyBox low high profile → neg_ℤ (pos 1000000) ≤ℤ low → high ≤ℤ pos 1000000 → IsSolid (along_stage stage profile)
profile_solid low high stage profile near fit bottom top = record {
  x0 = near.x0;
  x1 = near.x1;
  wide = fit.across.order;
  high = fit.upwards.order;
  left = omega (arith, ints, fit.across.bottom);
  right = omega (arith, ints, fit.across.top);
  bottom = omega (arith, ints, fit.upwards.bottom, bottom);
  top = omega (arith, ints, fit.upwards.top, top);
}

-- the first stage of a job
pub first_is : (j : JobData) → IsJob j → 0 < length j.setup.stages → IsStage (stage_of j 0)
first_is j fit some = fit.setup.stages.each 0 no_stage some

punches_solid : (j : JobData) → IsJob j → All IsSolid (flat_map (λ stage. map (along_stage stage) stage.punch.body) j.setup.stages)
punches_solid j fit = all_flat_map IsSolid (λ stage. map (along_stage stage) stage.punch.body) j.setup.stages (λ k d within.
    let stage = get_or j.setup.stages k d in
    let punch = (fit.setup.stages.each k d within).punch in
    All-map IsSolid (along_stage stage) stage.punch.body (λ i e inside. profile_solid (pos 0) stage.punch.height stage (get_or stage.punch.body i e) ((setup_near j fit).stages k d within) (punch.lists.each_box i e inside) (omega (arith, ints)) (omega (arith, ints, punch.sizes.height.top))))

dies_solid : (j : JobData) → IsJob j → All IsSolid (flat_map (λ stage. map (along_stage stage) stage.die.body) j.setup.stages)
dies_solid j fit = all_flat_map IsSolid (λ stage. map (along_stage stage) stage.die.body) j.setup.stages (λ k d within.
    let stage = get_or j.setup.stages k d in
    let die = (fit.setup.stages.each k d within).die in
    All-map IsSolid (along_stage stage) stage.die.body (λ i e inside. profile_solid (neg_ℤ stage.die.height) (pos 0) stage (get_or stage.die.body i e) ((setup_near j fit).stages k d within) (die.lists.each_box i e inside) (omega (arith, ints, die.sizes.height.top)) (omega (arith, ints))))

pub upper_solid : (j : JobData) → IsJob j → 0 < length j.setup.stages → All IsSolid (upper_boxes j)
upper_solid j fit some =
    let punch = (first_is j fit some).punch in
    All-append IsSolid (map (raised_box (stage_of j 0).punch.height) j.setup.upper) (flat_map (λ stage. map (along_stage stage) stage.punch.body) j.setup.stages)
    (All-map IsSolid (raised_box (stage_of j 0).punch.height) j.setup.upper (λ k d within. raised_solid (pos 0) coordinate_limit (stage_of j 0).punch.height (get_or j.setup.upper k d) (fit.setup.fixtures.upper k d within) (omega (arith, ints)) (omega (arith, ints)) (omega (arith, ints, punch.sizes.height.bottom)) punch.sizes.height.top))
    (punches_solid j fit)

pub lower_solid : (j : JobData) → IsJob j → 0 < length j.setup.stages → All IsSolid (lower_boxes j)
lower_solid j fit some =
    let die = (first_is j fit some).die in
    All-append IsSolid (map (raised_box (neg_ℤ (stage_of j 0).die.height)) j.setup.lower) (flat_map (λ stage. map (along_stage stage) stage.die.body) j.setup.stages)
    (All-map IsSolid (raised_box (neg_ℤ (stage_of j 0).die.height)) j.setup.lower (λ k d within. raised_solid (neg_ℤ coordinate_limit) (pos 0) (neg_ℤ (stage_of j 0).die.height) (get_or j.setup.lower k d) (fit.setup.fixtures.lower k d within) (omega (arith, ints)) (omega (arith, ints)) (omega (arith, ints, die.sizes.height.top)) (omega (arith, ints, die.sizes.height.bottom))))
    (dies_solid j fit)
