use Rattle.std.proofs.Common.{arith}
use Rattle.sheet_page.specs.Strokes.{stroke_data}
use Rattle.sheet_page.proofs.Costs.{cost_parts}
use Rattle.sheet_page.proofs.stroke_facts.way_cost.Goals as goal

pub overflow_sub-result : goal.overflow_sub-result
overflow_sub-result c = omega (arith, cost_parts c.args.job.now (stroke_data c.args.stroke.now) c.requires)

pub overflow_sub-result-2 : goal.overflow_sub-result-2
overflow_sub-result-2 c = omega (arith, cost_parts c.args.job.now (stroke_data c.args.stroke.now) c.requires)

pub returns : goal.returns
returns c = omega (arith, cost_parts c.args.job.now (stroke_data c.args.stroke.now) c.requires)
