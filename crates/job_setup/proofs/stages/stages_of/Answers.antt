use Rattle.std.proofs.Common.{List, ◌≡◌, ◌++◌, ◌∷◌, [], Ok, Err, map, arith}
use Rattle.std.proofs.lemmas.Result.{err_from_is_err_and}
use Rattle.std.proofs.lemmas.List.{map_push}
use Rattle.toml_fields.proofs.Each.{goes_on, is_done}
use Rattle.part_file.specs.Part.{part_data}
use Rattle.tool_library.specs.Tools.{tools_data}
use Rattle.job_setup.specs.Setup.{StageData, stage_data}
use Rattle.job_setup.specs.Stages.{stage_of_text}
use Rattle.machine_file.specs.Machine.{IsStageText, stage_text_data}
use Rattle.job_setup.proofs.Lists.{all_at, stops}
use Rattle.job_setup.proofs.stages.stages_of.Goals as goal

pub stage_of_text-requires : goal.stage_of_text-requires
stage_of_text-requires c = all_at IsStageText stage_text_data c.args.texts.now c.loop-text.text-index c.text-item.result c.requires.texts c.loop-text-test.true c.text-item.is

pub loop-text-preserved : goal.loop-text-preserved
loop-text-preserved c =
    let read_stage = stage_of_text (part_data c.args.part.now) (tools_data c.args.tools.now) in
    let same : c.len.result ≡ c.loop-text.text-index = omega arith in
    let front : List StageData = map stage_data c.loop-text.stages.items in
    let read : read_stage c.loop-text.text-index (stage_text_data c.text-item.result) ≡ Ok (stage_data c.in_ok-stage.stage) = rw (← same) (c.in_ok-stage.ensures) in
    let grown : map stage_data c.push.new.self.items ≡ front ++ stage_data c.in_ok-stage.stage ∷ [] = rw c.push.ensures.items (map_push _ c.loop-text.stages.items c.in_ok-stage.stage) in
    record {
      count = omega arith;
      reads = rw grown (goes_on stage_text_data read_stage c.args.texts.now c.text-item.result c.loop-text.text-index c.loop-text.text-index front (stage_data c.in_ok-stage.stage) _ c.loop-text-test.true c.text-item.is read c.loop-text.invariant.reads);
    }

pub returns-in_err-stage-clause-value : goal.returns-in_err-stage-clause-value
returns-in_err-stage-clause-value c =
    let read_stage = stage_of_text (part_data c.args.part.now) (tools_data c.args.tools.now) in
    let p = err_from_is_err_and c.from_residual.result c.from_residual.ensures.1 in
    let same : c.len.result ≡ c.loop-text.text-index = omega arith in
    let failed : read_stage c.loop-text.text-index (stage_text_data c.text-item.result) ≡ Err c.in_err-stage.field-0.0 = rw (← same) (c.in_err-stage.ensures) in
    rw (p.1, p.2) (stops stage_text_data read_stage c.args.texts.now c.text-item.result c.loop-text.text-index c.loop-text.text-index (map stage_data c.loop-text.stages.items) c.in_err-stage.field-0.0 _ c.loop-text-test.true c.text-item.is failed c.loop-text.invariant.reads)

pub returns-clause-value : goal.returns-clause-value
returns-clause-value c =
    is_done stage_text_data (stage_of_text (part_data c.args.part.now) (tools_data c.args.tools.now)) c.args.texts.now c.loop-text.text-index c.loop-text.text-index (map stage_data c.loop-text.stages.items) _ c.loop-text-test.false c.loop-text.invariant.reads
