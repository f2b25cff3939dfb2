use Rattle.std.proofs.Common.{arith}
use Rattle.sheet_page.specs.Strokes.{stroke_data}
use Rattle.sheet_page.proofs.Costs.{cost_parts}
use Rattle.sheet_page.proofs.stroke_facts.put_cost_words.Goals as goal

pub put_seconds-requires : goal.put_seconds-requires
put_seconds-requires c = omega (arith, cost_parts c.args.job.now (stroke_data c.args.stroke.now) c.requires, c.requires.small)

pub put_cost_part-requires : goal.put_cost_part-requires
put_cost_part-requires c = omega (arith, cost_parts c.args.job.now (stroke_data c.args.stroke.now) c.requires, c.requires.small)

pub put_cost_part-requires-2 : goal.put_cost_part-requires-2
put_cost_part-requires-2 c = omega (arith, cost_parts c.args.job.now (stroke_data c.args.stroke.now) c.requires, c.requires.small)
