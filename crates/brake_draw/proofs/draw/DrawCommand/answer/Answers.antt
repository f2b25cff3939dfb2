use Rattle.std.proofs.Common.{map, string_bytes}
use Rattle.std.specs.Vec.{vec_items}
use Rattle.command_runner.specs.Answers.{answer_data}
use Rattle.command_runner.proofs.Rests.{nothing_first}
use Rattle.brake_draw.specs.Draw.{IsDrawAnswer}
use Rattle.brake_draw.proofs.draw.DrawCommand.answer.Goals as goal

pub returns-clause-answer : goal.returns-clause-answer
returns-clause-answer g c =
    nothing_first (IsDrawAnswer (map string_bytes c.args.words.now) (map vec_items c.args.contents.now)) (answer_data c.in_ok-draw_answer.field-0) (g.H.Shelf.state c.args.arg5.now)
    c.in_ok-draw_answer.ensures.answer
