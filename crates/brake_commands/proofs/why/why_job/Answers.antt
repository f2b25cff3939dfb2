use Rattle.std.proofs.Common.{◌≡◌, ap, ◌∙◌}
use Rattle.std.proofs.lemmas.Result.{IfOk-weaker}
use Rattle.command_runner.specs.declared.status.Status.{Status}
use Rattle.command_runner.specs.Answers.{answer_data, one_text}
use Rattle.brake_commands.specs.WhyAnswer.{IsWhy}
use Rattle.brake_commands.proofs.why.why_job.Goals as goal

pub returns-clause-answer : goal.returns-clause-answer
returns-clause-answer c =
    let book = c.in_ok-book.book in
    IfOk-weaker c.one_text.result (λ answer. answer_data answer ≡ one_text Status.Done c.in_ok-text.text.items) (λ answer. IsWhy c.args.job.now (answer_data answer))
    (λ answer is. (book.nogoods, c.in_ok-book.ensures.exact, is ∙ ap (one_text Status.Done) c.in_ok-text.ensures)) c.one_text.ensures.answer
