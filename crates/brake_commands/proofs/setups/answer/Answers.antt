use Rattle.std.proofs.Common.{map}
use Rattle.std.specs.Vec.{vec_items}
use Rattle.std.proofs.lemmas.Result.{IfOk-weaker}
use Rattle.command_runner.specs.Answers.{answer_data}
use Rattle.command_runner.specs.Ends.{StoresFirst}
use Rattle.command_runner.proofs.Rests.{nothing_first}
use Rattle.brake_commands.specs.SetupList.{list_of_files}
use Rattle.brake_commands.specs.SetupStops.{list_data}
use Rattle.brake_commands.specs.SetupsAnswer.{IsListAnswer, IsSetupsAnswer}
use Rattle.brake_commands.proofs.SetupsAnswers.{list_answers, list_stopped}
use Rattle.brake_commands.proofs.Begun.{first_weaker, setups_begun}
use Rattle.brake_commands.proofs.setups.answer.Goals as goal

pub returns-in-Ok-clause-answer : goal.returns-in-Ok-clause-answer
returns-in-Ok-clause-answer g c =
    let name = c.args.name.now in
    let contents = map vec_items c.args.contents.now in
    let list = list_data c.in-Ok.list in
    IfOk-weaker c.list_answer.result
    (λ answer. StoresFirst (IsListAnswer name list) (answer_data answer) (g.H.Shelf.state c.args.shelf.now) (g.H.Shelf.state c.list_answer.new.shelf))
    (λ answer. StoresFirst (IsSetupsAnswer name contents) (answer_data answer) (g.H.Shelf.state c.args.shelf.now) (g.H.Shelf.state c.list_answer.new.shelf))
    (λ answer first. first_weaker (IsListAnswer name list) (IsSetupsAnswer name contents) (answer_data answer) (g.H.Shelf.state c.args.shelf.now) (g.H.Shelf.state c.list_answer.new.shelf)
    (λ whole is. list_answers (IsListAnswer name) list (list_of_files contents) whole c.in-Ok.ensures.value is) first)
    c.list_answer.ensures.answer

pub returns-in-Ok-clause-begins : goal.returns-in-Ok-clause-begins
returns-in-Ok-clause-begins g c =
    setups_begun c.list_answer.result c.args.name.now (map vec_items c.args.contents.now) (list_data c.in-Ok.list) (g.H.Shelf.state c.args.shelf.now) (g.H.Shelf.state c.list_answer.new.shelf) c.in-Ok.ensures.value c.list_answer.ensures.begins

pub returns-in_ok-setups_stopped-in-Err-clause-answer : goal.returns-in_ok-setups_stopped-in-Err-clause-answer
returns-in_ok-setups_stopped-in-Err-clause-answer g c =
    let name = c.args.name.now in
    let contents = map vec_items c.args.contents.now in
    let answer = answer_data c.in_ok-setups_stopped-in-Err.field-0 in
    nothing_first (IsSetupsAnswer name contents) answer (g.H.Shelf.state c.args.shelf.now)
    (list_stopped (IsListAnswer name) c.in-Err.stop (list_of_files contents) answer c.in-Err.ensures.value c.in_ok-setups_stopped-in-Err.ensures.answer)
