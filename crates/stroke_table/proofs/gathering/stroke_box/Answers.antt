use Rattle.handling_cost.proofs.Keys.{some_stage}
use Rattle.stroke_table.proofs.gathering.stroke_box.Goals as goal

pub stage_range-x0-requires : goal.stage_range-x0-requires
stage_range-x0-requires c = some_stage c.args.job.now c.recall_valid.ensures
