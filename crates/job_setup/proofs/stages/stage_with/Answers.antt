use Rattle.std.proofs.Common.{◌≡◌, ◌+ℤ◌, ◌∙◌, ap, map, w64, SFits, arith, rules}
use Rattle.std.proofs.lemmas.Int.{ints, to_z-of_z}
use Rattle.part_file.specs.Part.{part_data}
use Rattle.tool_library.specs.Tools.{punch_data, die_data, load_data}
use Rattle.job_setup.specs.Setup.{StageData}
use Rattle.machine_file.specs.Machine.{stage_text_data}
use Rattle.job_setup.specs.Stages.{total, least_limit, stage_with}
use Rattle.job_setup.proofs.stages.stage_with.Goals as goal

pub returns : goal.returns
returns c =
    let at = c.requires.text.at in
    let end_fits : SFits w64 (c.args.text.now.at +ℤ c.total.result) = omega (arith, ints, at.bottom, at.top, c.total.ensures.low, c.total.ensures.high) in
    let long : c.total.result ≡ total c.args.text.now.pieces.items = c.total.ensures.value ∙ ap total c.as_slice.ensures.value in
    let punch_fits : SFits w64 c.args.punch.now.limit = search rules in
    let die_fits : SFits w64 c.args.die.now.limit = search rules in
    let limit : c.least_limit.result ≡ least_limit c.args.punch.now.limit c.args.die.now.limit = simp to_z-of_z at c.least_limit.ensures in
    let at_fits : SFits w64 c.args.text.now.at = search rules in
    let total_fits : SFits w64 c.total.result = search rules in
    let load_fits : SFits w64 c.stage_load.result = search rules in
    let limit_fits : SFits w64 c.least_limit.result = search rules in
    let plain : ◌≡◌ {A = StageData} (record {
      punch = punch_data c.punch_shape.result;
      die = die_data c.die_shape.result;
      x0 = c.args.text.now.at;
      x1 = c.args.text.now.at +ℤ c.total.result;
      pieces = c.copy_pieces.result.items;
      load = c.stage_load.result;
      limit = c.least_limit.result;
    }) (stage_with (part_data c.args.part.now) (map load_data c.args.loads.now) (stage_text_data c.args.text.now) (punch_data c.args.punch.now) (die_data c.args.die.now)) = λ i. record {
      punch = c.punch_shape.ensures i;
      die = c.die_shape.ensures i;
      x0 = c.args.text.now.at;
      x1 = c.args.text.now.at +ℤ long i;
      pieces = c.copy_pieces.ensures i;
      load = c.stage_load.ensures i;
      limit = limit i;
    } in
    simp to_z-of_z plain
