use Rattle.std.proofs.Common.{arith, add-one}
use Rattle.setup_sheet.proofs.StageLines.{stages_more, stages_done}
use Rattle.setup_sheet.proofs.setup.put_stages.Goals as goal

pub loop-i-preserved : goal.loop-i-preserved
loop-i-preserved c =
    rw add-one (stages_more c.loop-i.i c.args.stages.now c.index-stages-i.result c.args.out.now.items c.loop-i.out.items c.put_stage.new.out.items c.loop-i-test.true c.index-stages-i.is c.loop-i.invariant c.in_ok-put_stage.ensures)

pub returns : goal.returns
returns c = stages_done c.loop-i.i c.args.stages.now c.args.out.now.items c.loop-i.out.items (omega arith) c.loop-i.invariant
