use Rattle.handling_cost.proofs.Keys.{some_stage}
use Rattle.stroke_tests.proofs.sweep_check_tests.posed.Goals as goal

pub pose_at-requires-clause-stage : goal.pose_at-requires-clause-stage
pose_at-requires-clause-stage c = some_stage c.args.job.now c.shape.ensures.valid

pub returns : goal.returns
returns c = record {
  mask = c.args.mask;
  group = c.args.group;
  back = c.args.back;
  stroke = c.requires;
  within = some_stage c.args.job.now c.shape.ensures.valid;
  value = c.pose_at.ensures.value;
}
