use Rattle.std.proofs.lemmas.Result.{IfOk-weaker}
use Rattle.command_runner.specs.Answers.{answer_data}
use Rattle.command_runner.specs.Ends.{StoresFirst}
use Rattle.command_runner.proofs.Rests.{nothing_first}
use Rattle.brake_commands.specs.TableCheck.{AnswersTable}
use Rattle.brake_commands.specs.TableStops.{checked_file}
use Rattle.brake_commands.specs.SettleAnswer.{AnswersBase}
use Rattle.brake_commands.proofs.PlanAnswers.{begun_weaker}
use Rattle.brake_commands.proofs.Begun.{first_weaker}
use Rattle.brake_commands.proofs.TableAnswers.{table_refused, text_accepted}
use Rattle.brake_commands.proofs.settle.answer_over.Goals as goal

pub answer_to_base-requires-clause-base : goal.answer_to_base-requires-clause-base
answer_to_base-requires-clause-base g c = c.in-Ok.ensures.value.1

pub returns-in-Ok-clause-answer : goal.returns-in-Ok-clause-answer
returns-in-Ok-clause-answer g c =
    let P = AnswersBase c.args.name.now c.args.range.low c.args.range.high c.args.job.now in
    let text = c.args.text.now in
    let base = c.in-Ok.base in
    let checks = c.in-Ok.ensures.value in
    let table = checks.1.0 in
    let before = g.H.Shelf.state c.args.shelf.now in
    let after = g.H.Shelf.state c.answer_to_base.new.shelf in
    IfOk-weaker c.answer_to_base.result (λ answer. StoresFirst (P (checked_file base table)) (answer_data answer) before after) (λ answer. StoresFirst (AnswersTable 5 P text) (answer_data answer) before after)
    (λ answer first. first_weaker (P (checked_file base table)) (AnswersTable 5 P text) (answer_data answer) before after (λ whole is. text_accepted 5 P text base table whole checks.0 checks.1.1 is) first)
    (c.answer_to_base.ensures.answer table checks.1.1)

pub returns-in-Ok-clause-begins : goal.returns-in-Ok-clause-begins
returns-in-Ok-clause-begins g c =
    let P = AnswersBase c.args.name.now c.args.range.low c.args.range.high c.args.job.now in
    let text = c.args.text.now in
    let base = c.in-Ok.base in
    let checks = c.in-Ok.ensures.value in
    let table = checks.1.0 in
    begun_weaker (P (checked_file base table)) (AnswersTable 5 P text) c.answer_to_base.result (g.H.Shelf.state c.args.shelf.now) (g.H.Shelf.state c.answer_to_base.new.shelf)
    (λ whole is. text_accepted 5 P text base table whole checks.0 checks.1.1 is) (c.answer_to_base.ensures.begins table checks.1.1)

pub returns-in_ok-table_stopped-in-Err-clause-answer : goal.returns-in_ok-table_stopped-in-Err-clause-answer
returns-in_ok-table_stopped-in-Err-clause-answer g c =
    let P = AnswersBase c.args.name.now c.args.range.low c.args.range.high c.args.job.now in
    let text = c.args.text.now in
    let answer = answer_data c.in_ok-table_stopped-in-Err.field-0 in
    nothing_first (AnswersTable 5 P text) answer (g.H.Shelf.state c.args.shelf.now) (table_refused 5 P text c.in-Err.stop answer c.in-Err.ensures.value c.in_ok-table_stopped-in-Err.ensures.answer)
