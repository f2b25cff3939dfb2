use Rattle.std.proofs.Common.{◌≡◌, ◌∙◌, ap, sym, subst, ℤ, List, map, to_z, of_z, w64, arith}
use Rattle.std.specs.Prelude.{All}
use Rattle.std.proofs.lemmas.Int.{ints}
use Rattle.machine_file.specs.declared.machine.Fixed.{Fixed}
use Rattle.tool_library.specs.Tools.{IsDie}
use Rattle.part_file.specs.Part.{PartData}
use Rattle.job_setup.specs.Setup.{StageData}
use Rattle.job_setup.specs.StageOf.{no_stage}
use Rattle.job_setup.specs.Near.{IsNearBox}
use Rattle.job_setup.proofs.obstacle.lower_group.Goals as goal

pub half_opening-half_opening-requires : goal.half_opening-half_opening-requires
half_opening-half_opening-requires c = subst (λ (s : StageData). IsDie s.die) (sym c.stage_at.ensures.value) (c.part.ensures.valid.setup.stages.each c.args.stage no_stage c.requires.stage).die

pub lower_obstacles-requires-clause-near : goal.lower_obstacles-requires-clause-near
lower_obstacles-requires-clause-near c = subst (λ (xs : List Fixed). All IsNearBox xs) (sym c.as_slice.ensures.value) c.lower_boxes-boxes.ensures.near

pub lower_obstacles-requires-clause-sweep : goal.lower_obstacles-requires-clause-sweep
lower_obstacles-requires-clause-sweep c =
    let part = c.part.ensures.valid.part in
    let same = ap (λ (p : PartData). p.thickness) c.part.ensures.value in
    record {
      thin = omega (arith, ints, same, part.sheet.thickness.range.bottom);
      thick = omega (arith, ints, same, part.sheet.thickness.range.bottom, part.sheet.thickness.range.top);
      narrow = omega (arith, ints, c.half_opening-half_opening.ensures.low);
      wide = omega (arith, ints, c.half_opening-half_opening.ensures.low, c.half_opening-half_opening.ensures.high);
    }
