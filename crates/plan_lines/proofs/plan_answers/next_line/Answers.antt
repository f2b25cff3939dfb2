use Rattle.plan_lines.specs.PlanItem.{plan_answer}
use Rattle.plan_lines.proofs.PlanItems.{line_next}
use Rattle.plan_lines.proofs.plan_answers.next_line.Goals as goal

pub returns-in-Some-clause-some : goal.returns-in-Some-clause-some
returns-in-Some-clause-some c =
    line_next c.args.place.now c.args.text.now c.in-Some.line.now c.in-Some.rest.now (plan_answer c.plan_item-answer.result.0, c.plan_item-answer.result.1) c.in-Some.ensures.some c.plan_item-answer.ensures
