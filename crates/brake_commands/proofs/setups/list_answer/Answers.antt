use Rattle.std.proofs.lemmas.Result.{IfOk-weaker}
use Rattle.command_runner.specs.Answers.{answer_data}
use Rattle.command_runner.specs.Ends.{StoresFirst}
use Rattle.brake_commands.specs.SetupStops.{list_data, StopsAtSetup}
use Rattle.brake_commands.specs.SetupsAnswer.{IsTriedAnswer, IsListAnswer, tried}
use Rattle.command_runner.proofs.Rests.{nothing_first}
use Rattle.brake_commands.proofs.SetupsAnswers.{setup_stopped}
use Rattle.brake_commands.proofs.Begun.{first_weaker}
use Rattle.brake_commands.proofs.setups.list_answer.Goals as goal

pub returns-in-Ok-clause-answer : goal.returns-in-Ok-clause-answer
returns-in-Ok-clause-answer g c =
    let name = c.args.name.now in
    let list = list_data c.args.list.now in
    IfOk-weaker c.fitted_answer.result
    (λ answer. StoresFirst (IsTriedAnswer name list) (answer_data answer) (g.H.Shelf.state c.args.shelf.now) (g.H.Shelf.state c.fitted_answer.new.shelf))
    (λ answer. StoresFirst (IsListAnswer name list) (answer_data answer) (g.H.Shelf.state c.args.shelf.now) (g.H.Shelf.state c.fitted_answer.new.shelf))
    (λ answer first. first_weaker (IsTriedAnswer name list) (IsListAnswer name list) (answer_data answer) (g.H.Shelf.state c.args.shelf.now) (g.H.Shelf.state c.fitted_answer.new.shelf) (λ whole is. tried is) first)
    c.fitted_answer.ensures.answer

pub returns-in_ok-setups_stopped-in-Err-clause-answer : goal.returns-in_ok-setups_stopped-in-Err-clause-answer
returns-in_ok-setups_stopped-in-Err-clause-answer g c =
    let name = c.args.name.now in
    let list = list_data c.args.list.now in
    let answer = answer_data c.in_ok-setups_stopped-in-Err.field-0 in
    let first : StopsAtSetup list.files list.setups c.in-Err.stop = rw c.as_slice.ensures.value at c.in-Err.ensures in
    nothing_first (IsListAnswer name list) answer (g.H.Shelf.state c.args.shelf.now) (setup_stopped name list.files list.setups c.in-Err.stop answer first c.in_ok-setups_stopped-in-Err.ensures.answer)
