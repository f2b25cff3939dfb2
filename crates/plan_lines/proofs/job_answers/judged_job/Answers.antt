use Rattle.std.proofs.Common.{Ok, ◌∷◌, ap, sym, ◌∙◌, true, false}
use Rattle.job_setup.specs.Setup.{JobData}
use Rattle.cert_lines.specs.JobLines.{job_lines_data}
use Rattle.plan_lines.specs.declared.item.Item.TheVariants as given
use Rattle.plan_lines.specs.Items.{items_behind, plan_items}
use Rattle.plan_lines.specs.PlanReading.{first_section}
use Rattle.plan_lines.proofs.JobItems.{judged_by}
use Rattle.plan_lines.proofs.PlanItems.{job_given}
use Rattle.plan_lines.proofs.job_answers.judged_job.Goals as goal

pub returns-in-Some-clause-given : goal.returns-in-Some-clause-given
returns-in-Some-clause-given c = λ behind others cut.
    let lines = job_lines_data c.args.lines in
    let n = c.args.number in
    let line = c.args.line.now in
    let (is, valid) = c.in-Some.ensures in
    rw c.first_section.ensures (job_given lines n line others c.in-Some.job (items_behind n lines line others) c.new.result _
    (judged_by n lines line others true (sym c.may_be_judged.ensures ∙ c.if-not-may_be_judged.false) valid ∙ ap (λ (job : JobData). Ok (given.Job job) ∷ plan_items lines.format job n (first_section lines.format) (line ∷ others)) (sym is))
    c.new.ensures.kept c.new.ensures.format cut)

pub returns-in-None-clause-given : goal.returns-in-None-clause-given
returns-in-None-clause-given c = λ behind others cut.
    rw (judged_by c.args.number (job_lines_data c.args.lines) c.args.line.now others false (sym c.may_be_judged.ensures ∙ c.if-not-may_be_judged.false) c.in-None.ensures) (c.refuse-in-None.ensures.given _)

pub returns-then-not-may_be_judged-clause-given : goal.returns-then-not-may_be_judged-clause-given
returns-then-not-may_be_judged-clause-given c = λ behind others cut. rw (sym c.may_be_judged.ensures ∙ c.if-not-may_be_judged.true) (c.refuse.ensures.given _)
