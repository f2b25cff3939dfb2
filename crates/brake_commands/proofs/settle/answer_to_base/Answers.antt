use Rattle.std.proofs.Common.{◌≡◌, subst}
use Rattle.std.proofs.lemmas.Result.{IfOk-weaker}
use Rattle.job_setup.specs.Setup.{JobData}
use Rattle.cert_merge.specs.SettledText.{IsClosedText}
use Rattle.cert_merge.specs.Table.{TableData}
use Rattle.command_runner.specs.Answers.{answer_data}
use Rattle.command_runner.specs.Ends.{StoresFirst}
use Rattle.command_runner.proofs.Rests.{nothing_first}
use Rattle.brake_commands.specs.declared.table_check.CheckedText.{CheckedText}
use Rattle.brake_commands.specs.TableStops.{checked_file, IsCheckedText}
use Rattle.brake_commands.specs.SettleAnswer.{IsSettledAnswer, AnswersBase}
use Rattle.brake_commands.proofs.PlanAnswers.{begun_weaker}
use Rattle.brake_commands.proofs.Begun.{first_weaker}
use Rattle.brake_commands.proofs.TableAnswers.{one_job_answers, other_job_answers}
use Rattle.brake_commands.proofs.settle.answer_to_base.Goals as goal

-- a checked text is that of a closed table of its job
closed_text : (base : CheckedText) (table : TableData) (job : JobData) → base.job ≡ job → IsCheckedText table base → IsClosedText job table base.text.now
closed_text base table job same is = subst (λ (j : JobData). IsClosedText j table base.text.now) same (record { text_is = is.written; closed = is.closed })

pub settled_answer-requires-clause-base : goal.settled_answer-requires-clause-base
settled_answer-requires-clause-base g c =
    let base = c.requires.base in
    (base.0, closed_text c.args.base.now base.0 c.args.job.now (c.in_ok-same.ensures.0 c.if-same.true) base.1)

pub returns-then-same-clause-answer : goal.returns-then-same-clause-answer
returns-then-same-clause-answer g c = λ table checked.
    let name = c.args.name.now in
    let range = c.args.range in
    let job = c.args.job.now in
    let base = c.args.base.now in
    let one = c.in_ok-same.ensures.0 c.if-same.true in
    let P = IsSettledAnswer name range.low range.high table job in
    let Q = AnswersBase name range.low range.high job (checked_file base table) in
    let before = g.H.Shelf.state c.args.shelf.now in
    let after = g.H.Shelf.state c.settled_answer.new.shelf in
    IfOk-weaker c.settled_answer.result (λ answer. StoresFirst P (answer_data answer) before after) (λ answer. StoresFirst Q (answer_data answer) before after)
    (λ answer stores. first_weaker P Q (answer_data answer) before after (λ whole is. one_job_answers base.job job P whole one is) stores)
    (c.settled_answer.ensures.answer table (closed_text base table job one checked))

pub returns-then-same-clause-begins : goal.returns-then-same-clause-begins
returns-then-same-clause-begins g c = λ table checked.
    let name = c.args.name.now in
    let range = c.args.range in
    let job = c.args.job.now in
    let base = c.args.base.now in
    let one = c.in_ok-same.ensures.0 c.if-same.true in
    let P = IsSettledAnswer name range.low range.high table job in
    let Q = AnswersBase name range.low range.high job (checked_file base table) in
    begun_weaker P Q c.settled_answer.result (g.H.Shelf.state c.args.shelf.now) (g.H.Shelf.state c.settled_answer.new.shelf)
    (λ whole is. one_job_answers base.job job P whole one is) (c.settled_answer.ensures.begins table (closed_text base table job one checked))

pub returns-in_ok-other_job-clause-answer : goal.returns-in_ok-other_job-clause-answer
returns-in_ok-other_job-clause-answer g c = λ table checked.
    let name = c.args.name.now in
    let range = c.args.range in
    let job = c.args.job.now in
    let base = c.args.base.now in
    let answer = answer_data c.in_ok-other_job.field-0 in
    nothing_first (AnswersBase name range.low range.high job (checked_file base table)) answer (g.H.Shelf.state c.args.shelf.now)
    (other_job_answers base.job job (IsSettledAnswer name range.low range.high table job) answer (λ one. let yes = c.in_ok-same.ensures.1 one in let no = c.if-same.false in cc) c.in_ok-other_job.ensures.answer)
