use Rattle.std.proofs.Common.{◌≡◌, ◌∙◌, ap, sym, subst, length, ℕ, List, map, string_bytes, IfOk, Option, Some}
use Rattle.std.specs.Vec.{vec_items}
use Rattle.command_runner.specs.Answers.{answer_data}
use Rattle.command_runner.specs.Ends.{StoresFirst}
use Rattle.command_runner.specs.Fetching.{file_words}
use Rattle.brake_commands.specs.declared.command.Command.{Command}
use Rattle.brake_commands.specs.declared.command.Command.TheVariants.{Settle}
use Rattle.brake_commands.specs.Commands.{meaning_of}
use Rattle.brake_commands.specs.Forms.{kinds_of, form_of}
use Rattle.brake_commands.specs.SettleAnswer.{IsSettleOverAnswer}
use Rattle.brake_commands.proofs.CommandAnswers.{plan_files}
use Rattle.brake_commands.proofs.command.FetchedCommandCommand.answer.Goals as goal

pub answer-requires : goal.answer-requires
answer-requires g c =
    c.requires.count ∙ ap (λ (k : Command). length (file_words (kinds_of (form_of k)))) c.in-Plan.is
    ∙ plan_files c.in-Plan.part c.in-Plan.tools c.in-Plan.machine c.in-Plan.cert c.in-Plan.budget

pub returns-in-Settle-default-default-default-default-default-default-Some-clause-answer :
    goal.returns-in-Settle-default-default-default-default-default-default-Some-clause-answer
returns-in-Settle-default-default-default-default-default-default-Some-clause-answer g c =
    let at = c.in-Settle-default-default-default-default-default-default-Some in
    let words = map string_bytes c.args.words.now in
    let contents = map vec_items c.args.contents.now in
    let before = g.H.Shelf.state c.args.shelf.now in
    let after = g.H.Shelf.state c.answer_with_base.new.shelf in
    let base : at.base ≡ Some at.base-0 = rw at.is at at.base-is in
    let is : c.args.self.now.command ≡ Settle at.part at.tools at.machine at.out at.low at.high (Some at.base-0) =
    at.is ∙ ap (λ (b : Option ℕ). Settle at.part at.tools at.machine at.out at.low at.high b) base in
    subst
    (λ (k : Command). IfOk c.answer_with_base.result
    (λ answer. StoresFirst (meaning_of k words contents) (answer_data answer) before after))
    (sym is)
    (subst
    (λ (n : List ℕ). IfOk c.answer_with_base.result
    (λ answer. StoresFirst (IsSettleOverAnswer n at.low at.high contents) (answer_data answer) before after))
    c.word_at-in-Settle-default-default-default-default-default-default-Some.ensures
    c.answer_with_base.ensures.answer)
