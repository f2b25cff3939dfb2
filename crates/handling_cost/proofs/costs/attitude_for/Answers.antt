use Rattle.std.proofs.Common.{◌∙◌, ap}
use Rattle.fold_boxes.specs.Shapes.{ShapeData}
use Rattle.fold_boxes.specs.Pose.{attitude_of}
use Rattle.handling_cost.specs.StepCost.{attitude_at}
use Rattle.handling_cost.proofs.costs.attitude_for.Goals as goal

pub returns-clause-value : goal.returns-clause-value
unfolding attitude_at
returns-clause-value c = c.attitude.ensures.value ∙ ap (λ (s : ShapeData). attitude_of s c.args.mask c.args.action.bend c.args.action.back) c.shape.ensures.value
