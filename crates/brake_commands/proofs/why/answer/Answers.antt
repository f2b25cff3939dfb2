use Rattle.std.proofs.Common.{◌≡◌, map}
use Rattle.std.specs.Vec.{vec_items}
use Rattle.std.proofs.lemmas.Result.{IfOk-weaker}
use Rattle.command_runner.specs.Answers.{answer_data}
use Rattle.brake_commands.specs.FaultNumbers.{file_refused}
use Rattle.brake_commands.specs.Stops.{IsRefusalAnd}
use Rattle.brake_commands.specs.JobAnswer.{job_of_files}
use Rattle.brake_commands.specs.WhyAnswer.{IsWhy, IsWhyAnswer}
use Rattle.brake_commands.proofs.CommandAnswers.{stop_answers, job_answers}
use Rattle.brake_commands.proofs.why.answer.Goals as goal

pub returns-in-Ok-clause-answer : goal.returns-in-Ok-clause-answer
returns-in-Ok-clause-answer c =
    let contents = map vec_items c.args.contents.now in
    IfOk-weaker c.why_job.result (λ answer. IsWhy c.in-Ok.job (answer_data answer)) (λ answer. IsWhyAnswer contents (answer_data answer))
    (λ answer is. job_answers IsWhy c.in-Ok.job (job_of_files 0 contents) (answer_data answer) c.in-Ok.ensures is) c.why_job.ensures.answer

pub returns-in-Err-clause-answer : goal.returns-in-Err-clause-answer
returns-in-Err-clause-answer c =
    let contents = map vec_items c.args.contents.now in
    IfOk-weaker c.stopped.result (λ answer. IsRefusalAnd c.in-Err.stop (λ fault. answer_data answer ≡ file_refused fault)) (λ answer. IsWhyAnswer contents (answer_data answer))
    (λ answer told. stop_answers IsWhy c.in-Err.stop (job_of_files 0 contents) (answer_data answer) c.in-Err.ensures told) c.stopped.ensures.answer
