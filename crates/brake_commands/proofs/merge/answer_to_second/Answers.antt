use Rattle.std.proofs.lemmas.Result.{IfOk-weaker}
use Rattle.command_runner.specs.Answers.{answer_data}
use Rattle.command_runner.specs.Ends.{StoresFirst}
use Rattle.command_runner.proofs.Rests.{nothing_first}
use Rattle.brake_commands.specs.TableCheck.{AnswersTable}
use Rattle.brake_commands.specs.TableStops.{checked_file}
use Rattle.brake_commands.specs.MergeAnswer.{AnswersBoth}
use Rattle.brake_commands.proofs.PlanAnswers.{begun_weaker}
use Rattle.brake_commands.proofs.Begun.{first_weaker}
use Rattle.brake_commands.proofs.TableAnswers.{table_refused, text_accepted}
use Rattle.brake_commands.proofs.merge.answer_to_second.Goals as goal

pub answer_to_both-requires : goal.answer_to_both-requires
answer_to_both-requires g c =
    let first = c.requires in
    let second = c.in-Ok.ensures.value.1 in
    record { checked = (first.0, second.0, first.1, second.1) }

pub returns-in-Ok-clause-answer : goal.returns-in-Ok-clause-answer
returns-in-Ok-clause-answer g c = λ x first.
    let P = AnswersBoth c.args.name.now (checked_file c.args.a.now x) in
    let text = c.args.text.now in
    let b = c.in-Ok.b in
    let checks = c.in-Ok.ensures.value in
    let y = checks.1.0 in
    let before = g.H.Shelf.state c.args.shelf.now in
    let after = g.H.Shelf.state c.answer_to_both.new.shelf in
    IfOk-weaker c.answer_to_both.result (λ answer. StoresFirst (P (checked_file b y)) (answer_data answer) before after) (λ answer. StoresFirst (AnswersTable 2 P text) (answer_data answer) before after)
    (λ answer stores. first_weaker (P (checked_file b y)) (AnswersTable 2 P text) (answer_data answer) before after (λ whole is. text_accepted 2 P text b y whole checks.0 checks.1.1 is) stores)
    (c.answer_to_both.ensures.answer x y first checks.1.1)

pub returns-in-Ok-clause-begins : goal.returns-in-Ok-clause-begins
returns-in-Ok-clause-begins g c = λ x first.
    let P = AnswersBoth c.args.name.now (checked_file c.args.a.now x) in
    let text = c.args.text.now in
    let b = c.in-Ok.b in
    let checks = c.in-Ok.ensures.value in
    let y = checks.1.0 in
    begun_weaker (P (checked_file b y)) (AnswersTable 2 P text) c.answer_to_both.result (g.H.Shelf.state c.args.shelf.now) (g.H.Shelf.state c.answer_to_both.new.shelf)
    (λ whole is. text_accepted 2 P text b y whole checks.0 checks.1.1 is) (c.answer_to_both.ensures.begins x y first checks.1.1)

pub returns-in_ok-table_stopped-in-Err-clause-answer : goal.returns-in_ok-table_stopped-in-Err-clause-answer
returns-in_ok-table_stopped-in-Err-clause-answer g c = λ x first.
    let P = AnswersBoth c.args.name.now (checked_file c.args.a.now x) in
    let text = c.args.text.now in
    let answer = answer_data c.in_ok-table_stopped-in-Err.field-0 in
    nothing_first (AnswersTable 2 P text) answer (g.H.Shelf.state c.args.shelf.now) (table_refused 2 P text c.in-Err.stop answer c.in-Err.ensures.value c.in_ok-table_stopped-in-Err.ensures.answer)
