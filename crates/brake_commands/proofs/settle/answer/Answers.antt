use Rattle.std.proofs.Common.{map}
use Rattle.std.specs.Vec.{vec_items}
use Rattle.std.proofs.lemmas.Result.{IfOk-weaker}
use Rattle.cert_merge.specs.TableTexts.{empty_table}
use Rattle.job_setup.specs.Setup.{JobData}
use Rattle.command_runner.specs.Answers.{AnswerData, answer_data}
use Rattle.command_runner.specs.Ends.{StoresFirst}
use Rattle.command_runner.proofs.Rests.{nothing_first}
use Rattle.brake_commands.specs.JobAnswer.{job_of_files}
use Rattle.brake_commands.specs.SettleAnswer.{AnswersRange, IsSettledAnswer, IsSettleAnswer}
use Rattle.brake_commands.proofs.CommandAnswers.{stop_answers, job_answers}
use Rattle.brake_commands.proofs.PlanAnswers.{begun_weaker}
use Rattle.brake_commands.proofs.Begun.{first_weaker}
use Rattle.brake_commands.proofs.settle.answer.Goals as goal

pub returns-in-Ok-clause-answer : goal.returns-in-Ok-clause-answer
returns-in-Ok-clause-answer g c =
    let name = c.args.name.now in
    let range = c.args.range in
    let contents = map vec_items c.args.contents.now in
    let before = g.H.Shelf.state c.args.shelf.now in
    let after = g.H.Shelf.state c.answer_to_job.new.shelf in
    let P : JobData → AnswerData → Type 0 = AnswersRange range.low range.high (IsSettledAnswer name range.low range.high empty_table) in
    let Q = IsSettleAnswer name range.low range.high contents in
    IfOk-weaker c.answer_to_job.result (λ answer. StoresFirst (P c.in-Ok.job) (answer_data answer) before after) (λ answer. StoresFirst Q (answer_data answer) before after)
    (λ answer first. first_weaker (P c.in-Ok.job) Q (answer_data answer) before after (λ whole is. job_answers P c.in-Ok.job (job_of_files 0 contents) whole c.in-Ok.ensures is) first) c.answer_to_job.ensures.answer

pub returns-in-Ok-clause-begins : goal.returns-in-Ok-clause-begins
returns-in-Ok-clause-begins g c =
    let name = c.args.name.now in
    let range = c.args.range in
    let contents = map vec_items c.args.contents.now in
    let P : JobData → AnswerData → Type 0 = AnswersRange range.low range.high (IsSettledAnswer name range.low range.high empty_table) in
    let Q = IsSettleAnswer name range.low range.high contents in
    begun_weaker (P c.in-Ok.job) Q c.answer_to_job.result (g.H.Shelf.state c.args.shelf.now) (g.H.Shelf.state c.answer_to_job.new.shelf) (λ whole is. job_answers P c.in-Ok.job (job_of_files 0 contents) whole c.in-Ok.ensures is) c.answer_to_job.ensures.begins

pub returns-in_ok-stopped-in-Err-clause-answer : goal.returns-in_ok-stopped-in-Err-clause-answer
returns-in_ok-stopped-in-Err-clause-answer g c =
    let name = c.args.name.now in
    let range = c.args.range in
    let contents = map vec_items c.args.contents.now in
    let answer = answer_data c.in_ok-stopped-in-Err.field-0 in
    let P : JobData → AnswerData → Type 0 = AnswersRange range.low range.high (IsSettledAnswer name range.low range.high empty_table) in
    nothing_first (IsSettleAnswer name range.low range.high contents) answer (g.H.Shelf.state c.args.shelf.now)
    (stop_answers P c.in-Err.stop (job_of_files 0 contents) answer c.in-Err.ensures c.in_ok-stopped-in-Err.ensures.answer)
