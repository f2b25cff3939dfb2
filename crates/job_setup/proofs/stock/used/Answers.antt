use Rattle.std.proofs.Common.{◌∙◌, arith}
use Rattle.machine_file.specs.Machine.{stage_text_data}
use Rattle.job_setup.specs.Stock.{stage_use}
use Rattle.job_setup.proofs.Lists.{sum_more, sum_all}
use Rattle.job_setup.proofs.stock.used.Goals as goal

pub loop-stage-preserved : goal.loop-stage-preserved
loop-stage-preserved c =
    let more = sum_more (stage_use c.args.kind c.args.name.now.bytes c.args.piece.now) stage_text_data c.args.stages.now c.loop-stage.stage-index c.stage-item.result c.loop-stage-test.true c.stage-item.is in
    (omega (arith, more, c.stage_use-used.ensures.value, c.loop-stage.invariant.0), omega arith)

pub returns : goal.returns
returns c = c.loop-stage.invariant.0 ∙ sum_all (stage_use c.args.kind c.args.name.now.bytes c.args.piece.now) stage_text_data c.args.stages.now c.loop-stage.stage-index c.loop-stage-test.false
