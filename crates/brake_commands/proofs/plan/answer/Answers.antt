use Rattle.std.proofs.Common.{map}
use Rattle.std.specs.Vec.{vec_items}
use Rattle.std.proofs.lemmas.Result.{IfOk-weaker}
use Rattle.command_runner.specs.Answers.{answer_data}
use Rattle.command_runner.specs.Ends.{StoresFirst}
use Rattle.command_runner.proofs.Rests.{nothing_first}
use Rattle.brake_commands.specs.JobAnswer.{job_of_files}
use Rattle.brake_commands.specs.PlanAnswer.{IsPlanned, IsPlanAnswer}
use Rattle.brake_commands.proofs.CommandAnswers.{stop_answers, job_answers}
use Rattle.brake_commands.proofs.PlanAnswers.{begun_weaker}
use Rattle.brake_commands.proofs.Begun.{first_weaker}
use Rattle.brake_commands.proofs.plan.answer.Goals as goal

pub returns-in-Ok-clause-answer : goal.returns-in-Ok-clause-answer
returns-in-Ok-clause-answer g c =
    let name = c.args.name.now in
    let budget = c.args.budget in
    let contents = map vec_items c.args.contents.now in
    let before = g.H.Shelf.state c.args.shelf.now in
    let after = g.H.Shelf.state c.plan_job.new.shelf in
    IfOk-weaker c.plan_job.result
    (λ answer. StoresFirst (IsPlanned name budget c.in-Ok.job) (answer_data answer) before after)
    (λ answer. StoresFirst (IsPlanAnswer name budget contents) (answer_data answer) before after)
    (λ answer first. first_weaker (IsPlanned name budget c.in-Ok.job) (IsPlanAnswer name budget contents) (answer_data answer) before after
    (λ whole is. job_answers (IsPlanned name budget) c.in-Ok.job (job_of_files 0 contents) whole c.in-Ok.ensures is) first)
    c.plan_job.ensures.answer

pub returns-in-Ok-clause-begins : goal.returns-in-Ok-clause-begins
returns-in-Ok-clause-begins g c =
    let name = c.args.name.now in
    let budget = c.args.budget in
    let contents = map vec_items c.args.contents.now in
    begun_weaker (IsPlanned name budget c.in-Ok.job) (IsPlanAnswer name budget contents) c.plan_job.result (g.H.Shelf.state c.args.shelf.now) (g.H.Shelf.state c.plan_job.new.shelf)
    (λ whole is. job_answers (IsPlanned name budget) c.in-Ok.job (job_of_files 0 contents) whole c.in-Ok.ensures is)
    c.plan_job.ensures.begins

pub returns-in_ok-stopped-in-Err-clause-answer : goal.returns-in_ok-stopped-in-Err-clause-answer
returns-in_ok-stopped-in-Err-clause-answer g c =
    let name = c.args.name.now in
    let budget = c.args.budget in
    let contents = map vec_items c.args.contents.now in
    let answer = answer_data c.in_ok-stopped-in-Err.field-0 in
    nothing_first (IsPlanAnswer name budget contents) answer (g.H.Shelf.state c.args.shelf.now)
    (stop_answers (IsPlanned name budget) c.in-Err.stop (job_of_files 0 contents) answer c.in-Err.ensures c.in_ok-stopped-in-Err.ensures.answer)
