use Rattle.std.proofs.Common.{◌≡◌, List, [], ◌++◌, ℕ, sym, subst}
use Rattle.std.proofs.lemmas.Result.{IfOk-weaker}
use Rattle.command_runner.specs.declared.status.Status.TheVariants as status
use Rattle.command_runner.specs.Answers.{answer_data, one_text}
use Rattle.command_runner.specs.Reading.{AnswersText}
use Rattle.brake_commands.specs.declared.table_check.TableStop.{TableStop}
use Rattle.brake_commands.specs.TableCheck.{table_refused_line}
use Rattle.brake_commands.specs.TableStops.{StopsAt, IsTableRefusalAnd}
use Rattle.brake_commands.specs.TableAnswer.{told_answer}
use Rattle.brake_commands.specs.ProveAnswer.{IsProved, IsProveAnswer}
use Rattle.brake_commands.proofs.TableAnswers.{table_refused, prove_stopped, proved_answers}
use Rattle.brake_commands.proofs.prove.answer.Goals as goal

pub returns-in-Ok-clause-answer : goal.returns-in-Ok-clause-answer
returns-in-Ok-clause-answer g c =
    let proved = c.in-Ok.proved in
    let now = c.prove_text_from.new.window in
    let told = c.in-Ok.ensures.answer in
    IfOk-weaker c.told_answer.result (λ answer. answer_data answer ≡ told_answer [] proved.rows proved.at_start)
    (λ answer. AnswersText IsProveAnswer c.args.window.now now [] (answer_data answer))
    (λ answer is. record {
      passed = told.0;
      has_passed = told.1;
      is_one = λ last may. proved_answers ((told.0 ++ now.unread) ++ last) proved (answer_data answer) (told.2 last may) is;
    }) c.told_answer.ensures.answer

pub returns-in-Err-clause-answer : goal.returns-in-Err-clause-answer
returns-in-Err-clause-answer g c =
    let now = c.prove_text_from.new.window in
    let told = c.in-Err.ensures.answer in
    IfOk-weaker c.table_stopped.result (λ answer. IsTableRefusalAnd c.from.result (λ refusal. answer_data answer ≡ one_text status.CertRefused (table_refused_line 1 refusal)))
    (λ answer. AnswersText IsProveAnswer c.args.window.now now [] (answer_data answer))
    (λ answer is. record {
      passed = told.0;
      has_passed = told.1;
      is_one = λ last may. table_refused 1 IsProved ((told.0 ++ now.unread) ++ last) c.from.result (answer_data answer)
          (subst (λ (why : TableStop). StopsAt ((told.0 ++ now.unread) ++ last) why) (sym c.from.ensures)
          (prove_stopped ((told.0 ++ now.unread) ++ last) c.in-Err.fault (told.2 last may))) is;
    }) c.table_stopped.ensures.answer
