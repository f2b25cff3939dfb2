use Rattle.std.proofs.Common.{◌≡◌, List, ℕ, [], ◌++◌, map}
use Rattle.std.specs.Vec.{vec_items}
use Rattle.std.proofs.lemmas.Result.{IfOk-weaker}
use Rattle.command_runner.specs.Answers.{answer_data}
use Rattle.command_runner.specs.Fetching.{word_at}
use Rattle.command_runner.specs.Reading.{AnswersText}
use Rattle.command_runner.proofs.Readings.{passes_nothing}
use Rattle.brake_commands.specs.FaultNumbers.{file_refused}
use Rattle.brake_commands.specs.Stops.{IsRefusalAnd}
use Rattle.brake_commands.specs.JobAnswer.{job_of_files}
use Rattle.brake_commands.specs.CheckAnswer.{IsAnswerFor, IsCheckFilesAnswer}
use Rattle.brake_commands.proofs.CommandAnswers.{stop_answers, job_answers}
use Rattle.brake_commands.proofs.check.answer_with_files.Goals as goal

pub returns-in-Ok-clause-answer : goal.returns-in-Ok-clause-answer
returns-in-Ok-clause-answer g c =
    let contents = map vec_items c.args.contents.now in
    let now = c.answer_of_job.new.window in
    IfOk-weaker c.answer_of_job.result (λ answer. AnswersText (λ contents. IsAnswerFor (word_at contents 0) c.in-Ok.job) c.args.window.now now [] (answer_data answer))
    (λ answer. AnswersText IsCheckFilesAnswer c.args.window.now now contents (answer_data answer))
    (λ answer told. record {
      passed = told.passed;
      has_passed = told.has_passed;
      is_one = λ last may. job_answers (IsAnswerFor ((told.passed ++ now.unread) ++ last)) c.in-Ok.job (job_of_files 0 contents) (answer_data answer) c.in-Ok.ensures (told.is_one last may);
    }) c.answer_of_job.ensures.answer

pub returns-in-Err-clause-answer : goal.returns-in-Err-clause-answer
returns-in-Err-clause-answer g c =
    let contents = map vec_items c.args.contents.now in
    let window = c.args.window.now in
    IfOk-weaker c.stopped.result (λ answer. IsRefusalAnd c.in-Err.stop (λ fault. answer_data answer ≡ file_refused fault)) (λ answer. AnswersText IsCheckFilesAnswer window window contents (answer_data answer))
    (λ answer told. record {
      passed = [];
      has_passed = passes_nothing window;
      is_one = λ last may. stop_answers (IsAnswerFor (([] ++ window.unread) ++ last)) c.in-Err.stop (job_of_files 0 contents) (answer_data answer) c.in-Err.ensures told;
    }) c.stopped.ensures.answer
