use Rattle.std.proofs.Common.{ap, ◌++◌, ◌∙◌}
use Rattle.plan_lines.specs.declared.section.Section.TheVariants as sections
use Rattle.plan_lines.proofs.PlanItems.{item_refused}
use Rattle.plan_lines.proofs.plan_answers.plan_item.Goals as goal

pub returns-in-None : goal.returns-in-None
returns-in-None c = λ job behind kept holds.
    let place = c.args.place.now in
    ap (λ r. (r, sections.Over)) (c.end_or_fault.ensures job behind kept holds) ∙ item_refused place.facts.format job place.number place.section c.args.line.now (c.args.rest.now ++ behind) (c.in-None.ensures job kept)
