use Rattle.std.proofs.Common.{◌≡◌, None}
use Rattle.brake_commands.specs.PlanAnswer.{HasFewRows, IsWrittenPlan}
use Rattle.brake_commands.proofs.PlanAnswers.{planned_first, planned_begun}
use Rattle.brake_commands.proofs.plan.plan_job.Goals as goal

pub returns-in_ok-cert-in-None-clause-answer : goal.returns-in_ok-cert-in-None-clause-answer
returns-in_ok-cert-in-None-clause-answer g c =
    let job = c.args.job.now in
    let written = c.in_ok-cert-in-None.cert in
    let found = c.in_ok-cert-in-None.ensures in
    let none : c.args.budget ≡ None = c.in-None.is in
    let few : HasFewRows c.args.budget job found.0 = rw none found.2 in
    let found : IsWrittenPlan c.args.budget job written = (found.0, found.1, few, found.3) in
    planned_first c.args.name.now c.args.budget job c.in_ok-sheet.sheet.items written c.in_ok-sheet.ensures.valid c.in_ok-sheet.ensures.sheet found c.stored_answer.result (g.H.Shelf.state c.args.shelf.now) (g.H.Shelf.state c.stored_answer.new.shelf)
    c.stored_answer.ensures.answer c.stored_answer.ensures.ok c.stored_answer.ensures.faults

pub returns-in_ok-cert-in-None-clause-begins : goal.returns-in_ok-cert-in-None-clause-begins
returns-in_ok-cert-in-None-clause-begins g c =
    let job = c.args.job.now in
    let written = c.in_ok-cert-in-None.cert in
    let found = c.in_ok-cert-in-None.ensures in
    let none : c.args.budget ≡ None = c.in-None.is in
    let few : HasFewRows c.args.budget job found.0 = rw none found.2 in
    let found : IsWrittenPlan c.args.budget job written = (found.0, found.1, few, found.3) in
    planned_begun c.args.name.now c.args.budget job c.in_ok-sheet.sheet.items written c.in_ok-sheet.ensures.valid c.in_ok-sheet.ensures.sheet found c.stored_answer.result (g.H.Shelf.state c.args.shelf.now) (g.H.Shelf.state c.stored_answer.new.shelf)
    c.stored_answer.ensures.err
