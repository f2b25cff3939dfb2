use Rattle.std.proofs.Common.{rules, ◌≡◌, List, length, sym, ap, ◌∙◌, unsigned_abs, FitsSigned, w64}
use Rattle.std.proofs.lemmas.Int.{to_z-of_z}
use Rattle.std.proofs.lemmas.Result.{IfOk-weaker}
use Rattle.brake_base.specs.declared.stroke.Step.{Step}
use Rattle.command_runner.specs.declared.status.Status.TheVariants.{Done}
use Rattle.command_runner.specs.Answers.{answer_data}
use Rattle.sheet_page.specs.Page.{IsPlanPage}
use Rattle.brake_draw.specs.Draw.{drawn_line, stored_page, IsDrawn}
use Rattle.brake_draw.proofs.Drawing.{read_plan, read_cost, plan_drawn}
use Rattle.brake_draw.proofs.draw.plan_drawn.Goals as goal

pub plan_page-requires-clause-plan : goal.plan_page-requires-clause-plan
plan_page-requires-clause-plan c =
    read_plan c.args.text.now c.args.job.now c.args.cost c.requires c.as_slice.result.now
    (c.as_slice.ensures.value ∙ c.steps_of-steps.ensures c.args.job.now c.requires.cert c.requires.good.written)

pub plan_page-requires-clause-cost : goal.plan_page-requires-clause-cost
plan_page-requires-clause-cost c =
    read_cost c.args.text.now c.args.job.now c.args.cost c.requires c.as_slice.result.now
    (c.as_slice.ensures.value ∙ c.steps_of-steps.ensures c.args.job.now c.requires.cert c.requires.good.written)

pub returns-clause-answer : goal.returns-clause-answer
returns-clause-answer c =
    let name = c.args.name.now in
    let text = c.args.text.now in
    let job = c.args.job.now in
    let steps = c.as_slice.result.now in
    let read : steps ≡ c.requires.cert.steps = c.as_slice.ensures.value ∙ c.steps_of-steps.ensures job c.requires.cert c.requires.good.written in
    let page = c.in_ok-page.page.items in
    let line = c.in_ok-line.line.items in
    let fits : FitsSigned w64 c.told_size.result = search rules in
    let shows : IsPlanPage job steps c.args.cost (unsigned_abs c.told_size.result) page = simp to_z-of_z at c.in_ok-page.ensures in
    let count : c.len.result ≡ length steps = c.len.ensures.value ∙ ap (λ (s : List Step). length s) (sym c.as_slice.ensures.value) in
    let put : line ≡ drawn_line (length steps) = c.in_ok-line.ensures ∙ ap drawn_line count in
    IfOk-weaker c.stored.result (λ answer. answer_data answer ≡ stored_page name page Done line) (λ answer. IsDrawn name text (answer_data answer))
    (λ answer is. plan_drawn text job c.args.cost c.requires steps read name page line (unsigned_abs c.told_size.result) (answer_data answer) shows c.told_size.ensures.value put is)
    c.stored.ensures.answer
