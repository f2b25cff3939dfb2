use Rattle.std.proofs.Common.{Some, None, refl}
use Rattle.command_runner.specs.Answers.{answer_data}
use Rattle.command_runner.proofs.Rests.{nothing_first}
use Rattle.brake_commands.specs.PlanAnswer.{Finds, spent_line, IsPlanned}
use Rattle.brake_commands.proofs.PlanAnswers.{planned_first, planned_begun, spent_planned}
use Rattle.brake_commands.proofs.plan.plan_within.Goals as goal

pub stored_answer-requires : goal.stored_answer-requires
stored_answer-requires g c =
    let found : Finds c.args.job.now c.args.budget (Some c.in-Some.cert) = rw c.in-Some.is at c.in_ok-found.ensures in
    (Some c.args.budget, found)

pub returns-in-Some-clause-answer : goal.returns-in-Some-clause-answer
returns-in-Some-clause-answer g c =
    let found : Finds c.args.job.now c.args.budget (Some c.in-Some.cert) = rw c.in-Some.is at c.in_ok-found.ensures in
    planned_first c.args.name.now (Some c.args.budget) c.args.job.now c.args.sheet.items c.in-Some.cert c.requires.job c.requires.sheet found c.stored_answer.result (g.H.Shelf.state c.args.shelf.now) (g.H.Shelf.state c.stored_answer.new.shelf)
    c.stored_answer.ensures.answer c.stored_answer.ensures.ok c.stored_answer.ensures.faults

pub returns-in-Some-clause-begins : goal.returns-in-Some-clause-begins
returns-in-Some-clause-begins g c =
    let found : Finds c.args.job.now c.args.budget (Some c.in-Some.cert) = rw c.in-Some.is at c.in_ok-found.ensures in
    planned_begun c.args.name.now (Some c.args.budget) c.args.job.now c.args.sheet.items c.in-Some.cert c.requires.job c.requires.sheet found c.stored_answer.result (g.H.Shelf.state c.args.shelf.now) (g.H.Shelf.state c.stored_answer.new.shelf)
    c.stored_answer.ensures.err

pub returns-in_ok-spent_answer-in-None-clause-answer : goal.returns-in_ok-spent_answer-in-None-clause-answer
returns-in_ok-spent_answer-in-None-clause-answer g c =
    let name = c.args.name.now in
    let job = c.args.job.now in
    let answer = answer_data c.in_ok-spent_answer-in-None.field-0 in
    let above : Finds job c.args.budget None = rw c.in-None.is at c.in_ok-found.ensures in
    nothing_first (IsPlanned name (Some c.args.budget) job) answer (g.H.Shelf.state c.args.shelf.now)
    (spent_planned name c.args.budget job (spent_line c.args.budget) answer above refl c.in_ok-spent_answer-in-None.ensures.answer)
