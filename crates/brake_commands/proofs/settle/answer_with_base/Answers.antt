use Rattle.std.proofs.Common.{List, ℕ, map, subst}
use Rattle.std.specs.Vec.{vec_items}
use Rattle.std.proofs.lemmas.Result.{IfOk-weaker}
use Rattle.job_setup.specs.Setup.{JobData}
use Rattle.command_runner.specs.Answers.{AnswerData, answer_data}
use Rattle.command_runner.specs.Fetching.{word_at}
use Rattle.command_runner.specs.Ends.{StoresFirst}
use Rattle.command_runner.proofs.Rests.{nothing_first}
use Rattle.brake_commands.specs.JobAnswer.{job_of_files}
use Rattle.brake_commands.specs.TableCheck.{AnswersTable}
use Rattle.brake_commands.specs.SettleAnswer.{AnswersRange, AnswersBase, IsSettleOverAnswer}
use Rattle.brake_commands.proofs.CommandAnswers.{stop_answers, job_answers}
use Rattle.brake_commands.proofs.PlanAnswers.{begun_weaker}
use Rattle.brake_commands.proofs.Begun.{first_weaker}
use Rattle.brake_commands.proofs.settle.answer_with_base.Goals as goal

-- the answer to a job and the text of a base
abbrev Over : List ℕ → ℕ → ℕ → List ℕ → JobData → AnswerData → Type 0
Over name low high text = AnswersRange low high (λ job. AnswersTable 5 (AnswersBase name low high job) text)

pub returns-in-Ok-clause-answer : goal.returns-in-Ok-clause-answer
returns-in-Ok-clause-answer g c =
    let name = c.args.name.now in
    let range = c.args.range in
    let contents = map vec_items c.args.contents.now in
    let before = g.H.Shelf.state c.args.shelf.now in
    let after = g.H.Shelf.state c.answer_to_job_over.new.shelf in
    let P : JobData → AnswerData → Type 0 = Over name range.low range.high (word_at contents 3) in
    let own : AnswerData → Type 0 = Over name range.low range.high c.content_at-text.result.now c.in-Ok.job in
    let Q = IsSettleOverAnswer name range.low range.high contents in
    IfOk-weaker c.answer_to_job_over.result (λ answer. StoresFirst own (answer_data answer) before after) (λ answer. StoresFirst Q (answer_data answer) before after)
    (λ answer first. first_weaker own Q (answer_data answer) before after
    (λ whole is. job_answers P c.in-Ok.job (job_of_files 0 contents) whole c.in-Ok.ensures (subst (λ (text : List ℕ). Over name range.low range.high text c.in-Ok.job whole) c.content_at-text.ensures is)) first)
    c.answer_to_job_over.ensures.answer

pub returns-in-Ok-clause-begins : goal.returns-in-Ok-clause-begins
returns-in-Ok-clause-begins g c =
    let name = c.args.name.now in
    let range = c.args.range in
    let contents = map vec_items c.args.contents.now in
    let P : JobData → AnswerData → Type 0 = Over name range.low range.high (word_at contents 3) in
    begun_weaker (Over name range.low range.high c.content_at-text.result.now c.in-Ok.job) (IsSettleOverAnswer name range.low range.high contents) c.answer_to_job_over.result (g.H.Shelf.state c.args.shelf.now) (g.H.Shelf.state c.answer_to_job_over.new.shelf)
    (λ whole is. job_answers P c.in-Ok.job (job_of_files 0 contents) whole c.in-Ok.ensures (subst (λ (text : List ℕ). Over name range.low range.high text c.in-Ok.job whole) c.content_at-text.ensures is)) c.answer_to_job_over.ensures.begins

pub returns-in_ok-stopped-in-Err-clause-answer : goal.returns-in_ok-stopped-in-Err-clause-answer
returns-in_ok-stopped-in-Err-clause-answer g c =
    let name = c.args.name.now in
    let range = c.args.range in
    let contents = map vec_items c.args.contents.now in
    let answer = answer_data c.in_ok-stopped-in-Err.field-0 in
    let P : JobData → AnswerData → Type 0 = Over name range.low range.high (word_at contents 3) in
    nothing_first (IsSettleOverAnswer name range.low range.high contents) answer (g.H.Shelf.state c.args.shelf.now)
    (stop_answers P c.in-Err.stop (job_of_files 0 contents) answer c.in-Err.ensures c.in_ok-stopped-in-Err.ensures.answer)
