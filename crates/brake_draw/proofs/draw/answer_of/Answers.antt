use Rattle.std.proofs.Common.{inl, inr}
use Rattle.std.proofs.lemmas.Result.{IfOk-weaker}
use Rattle.command_runner.specs.Answers.{answer_data}
use Rattle.brake_draw.specs.Draw.{IsDrawn, IsCertRefusal, IsTextAnswer}
use Rattle.brake_draw.proofs.Drawing.{refused_is}
use Rattle.brake_draw.proofs.draw.answer_of.Goals as goal

pub returns-in-Ok-clause-answer : goal.returns-in-Ok-clause-answer
returns-in-Ok-clause-answer c =
    IfOk-weaker c.drawn.result (λ answer. IsDrawn c.args.name.now c.args.text.now (answer_data answer)) (λ answer. IsTextAnswer c.args.name.now c.args.text.now (answer_data answer))
    (λ answer is. inl is) c.drawn.ensures.answer

pub returns-in-Err-clause-answer : goal.returns-in-Err-clause-answer
returns-in-Err-clause-answer c =
    IfOk-weaker c.refused.result (λ answer. IsCertRefusal c.in-Err.fault (answer_data answer)) (λ answer. IsTextAnswer c.args.name.now c.args.text.now (answer_data answer))
    (λ answer is. inr (record { fault = c.in-Err.fault; first = refused_is c.args.text.now c.in-Err.fault c.in-Err.ensures.answer is.0; answers = is })) c.refused.ensures.answer
