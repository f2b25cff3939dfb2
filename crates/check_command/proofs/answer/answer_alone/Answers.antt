use Rattle.std.proofs.Common.{◌≡◌, List, ℕ, [], ◌++◌, Ok, Err, refl}
use Rattle.std.proofs.lemmas.Result.{IfOk-weaker}
use Rattle.cert_check.specs.Checking.{checked_data}
use Rattle.command_runner.specs.Answers.{answer_data}
use Rattle.command_runner.specs.Reading.{AnswersText}
use Rattle.check_command.specs.CheckAnswer.{verdict_answer, IsCertRefusal, IsCheckAnswer}
use Rattle.check_command.proofs.Checks.{accepted_claim, refused_is}
use Rattle.check_command.proofs.answer.answer_alone.Goals as goal

pub verdict_answer-requires : goal.verdict_answer-requires
verdict_answer-requires g c =
    let told = c.in-Ok.ensures.answer in
    accepted_claim ((told.0 ++ c.check_from.new.window.unread) ++ []) (checked_data c.in-Ok.checked) (told.2 [] (λ over. refl))

pub returns-in-Ok-clause-answer : goal.returns-in-Ok-clause-answer
returns-in-Ok-clause-answer g c =
    let told = c.in-Ok.ensures.answer in
    IfOk-weaker c.verdict_answer.result (λ answer. answer_data answer ≡ verdict_answer c.in-Ok.checked.verdict) (λ answer. AnswersText IsCheckAnswer c.args.window.now c.check_from.new.window [] (answer_data answer))
    (λ answer is. record { passed = told.0; has_passed = told.1; is_one = λ last may. (Ok (checked_data c.in-Ok.checked), (told.2 last may, c.in-Ok.ensures.truth), is) }) c.verdict_answer.ensures.answer

pub returns-in-Err-clause-answer : goal.returns-in-Err-clause-answer
returns-in-Err-clause-answer g c =
    let told = c.in-Err.ensures.answer in
    IfOk-weaker c.cert_refused.result (λ answer. IsCertRefusal c.in-Err.fault (answer_data answer)) (λ answer. AnswersText IsCheckAnswer c.args.window.now c.check_from.new.window [] (answer_data answer))
    (λ answer is. record { passed = told.0; has_passed = told.1; is_one = λ last may. (Err c.in-Err.fault, refused_is ((told.0 ++ c.check_from.new.window.unread) ++ last) c.in-Err.fault (told.2 last may) is.0, is.1) }) c.cert_refused.ensures.answer
