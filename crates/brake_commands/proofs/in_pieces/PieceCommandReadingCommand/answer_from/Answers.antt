use Rattle.std.proofs.Common.{◌≡◌, List, ℕ, [], map, string_bytes, sym, subst}
use Rattle.std.specs.Vec.{vec_items}
use Rattle.std.proofs.lemmas.Result.{IfOk-weaker}
use Rattle.brake_io.specs.Pieces.{WindowState}
use Rattle.command_runner.specs.Answers.{AnswerData, answer_data}
use Rattle.command_runner.specs.Reading.{AnswersText}
use Rattle.brake_commands.specs.declared.in_pieces.PieceCommand.{PieceCommand}
use Rattle.brake_commands.specs.declared.in_pieces.PieceCommand.TheVariants.{Check, CheckFiles, Prove}
use Rattle.check_command.specs.CheckAnswer.{IsCheckAnswer}
use Rattle.brake_commands.specs.CheckAnswer.{IsCheckFilesAnswer}
use Rattle.brake_commands.specs.ProveAnswer.{IsProveAnswer}
use Rattle.brake_commands.specs.Commands.{piece_meaning}
use Rattle.brake_commands.proofs.in_pieces.PieceCommandReadingCommand.answer_from.Goals as goal

-- of a certificate or a table alone an answer is one whatever other files there are
check_is : (words others : List (List ℕ)) (before now : WindowState) (answer : AnswerData) → AnswersText IsCheckAnswer before now [] answer → AnswersText (piece_meaning Check words) before now others answer
check_is words others before now answer told = record { passed = told.passed; has_passed = told.has_passed; is_one = λ last may. told.is_one last may }

with_files_is : (words others : List (List ℕ)) (before now : WindowState) (answer : AnswerData) → AnswersText IsCheckFilesAnswer before now others answer → AnswersText (piece_meaning CheckFiles words) before now others answer
with_files_is words others before now answer told = record { passed = told.passed; has_passed = told.has_passed; is_one = λ last may. told.is_one last may }

prove_is : (words others : List (List ℕ)) (before now : WindowState) (answer : AnswerData) → AnswersText IsProveAnswer before now [] answer → AnswersText (piece_meaning Prove words) before now others answer
prove_is words others before now answer told = record { passed = told.passed; has_passed = told.has_passed; is_one = λ last may. told.is_one last may }

pub returns-in-Check-clause-answer : goal.returns-in-Check-clause-answer
returns-in-Check-clause-answer g c =
    let words = map string_bytes c.args.arg3.now in
    let others = map vec_items c.args.contents.now in
    let now = c.answer_alone.new.window in
    IfOk-weaker c.answer_alone.result (λ answer. AnswersText IsCheckAnswer c.args.window.now now [] (answer_data answer))
    (λ answer. AnswersText (piece_meaning c.args.self.now words) c.args.window.now now others (answer_data answer))
    (λ answer told. subst (λ (k : PieceCommand). AnswersText (piece_meaning k words) c.args.window.now now others (answer_data answer)) (sym c.in-Check.is)
    (check_is words others c.args.window.now now (answer_data answer) told)) c.answer_alone.ensures.answer

pub returns-in-CheckFiles-clause-answer : goal.returns-in-CheckFiles-clause-answer
returns-in-CheckFiles-clause-answer g c =
    let words = map string_bytes c.args.arg3.now in
    let others = map vec_items c.args.contents.now in
    let now = c.answer_with_files.new.window in
    IfOk-weaker c.answer_with_files.result (λ answer. AnswersText IsCheckFilesAnswer c.args.window.now now others (answer_data answer))
    (λ answer. AnswersText (piece_meaning c.args.self.now words) c.args.window.now now others (answer_data answer))
    (λ answer told. subst (λ (k : PieceCommand). AnswersText (piece_meaning k words) c.args.window.now now others (answer_data answer)) (sym c.in-CheckFiles.is)
    (with_files_is words others c.args.window.now now (answer_data answer) told)) c.answer_with_files.ensures.answer

pub returns-in-Prove-clause-answer : goal.returns-in-Prove-clause-answer
returns-in-Prove-clause-answer g c =
    let words = map string_bytes c.args.arg3.now in
    let others = map vec_items c.args.contents.now in
    let now = c.answer.new.window in
    IfOk-weaker c.answer.result (λ answer. AnswersText IsProveAnswer c.args.window.now now [] (answer_data answer))
    (λ answer. AnswersText (piece_meaning c.args.self.now words) c.args.window.now now others (answer_data answer))
    (λ answer told. subst (λ (k : PieceCommand). AnswersText (piece_meaning k words) c.args.window.now now others (answer_data answer)) (sym c.in-Prove.is)
    (prove_is words others c.args.window.now now (answer_data answer) told)) c.answer.ensures.answer
