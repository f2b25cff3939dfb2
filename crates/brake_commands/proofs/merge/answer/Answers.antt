use Rattle.std.proofs.Common.{◌∙◌, List, ℕ, map, subst}
use Rattle.std.specs.Vec.{vec_items}
use Rattle.std.proofs.lemmas.Result.{IfOk-weaker}
use Rattle.cert_merge.specs.Table.{TableFileData}
use Rattle.command_runner.specs.Answers.{AnswerData, answer_data}
use Rattle.command_runner.specs.Fetching.{word_at}
use Rattle.command_runner.specs.Ends.{StoresFirst}
use Rattle.command_runner.proofs.Rests.{nothing_first}
use Rattle.brake_commands.specs.TableCheck.{AnswersTable}
use Rattle.brake_commands.specs.TableStops.{checked_file, StopsAt}
use Rattle.brake_commands.specs.MergeAnswer.{AnswersBoth, IsMergeAnswer}
use Rattle.brake_commands.proofs.PlanAnswers.{begun_weaker}
use Rattle.brake_commands.proofs.Begun.{first_weaker}
use Rattle.brake_commands.proofs.TableAnswers.{table_refused, text_accepted}
use Rattle.brake_commands.proofs.merge.answer.Goals as goal

-- the answer to the first table, by the text of the second
abbrev Second : List ℕ → List ℕ → TableFileData → AnswerData → Type 0
Second name text a answer = AnswersTable 2 (AnswersBoth name a) text answer

pub answer_to_second-requires : goal.answer_to_second-requires
answer_to_second-requires g c = c.in-Ok.ensures.value.1

pub returns-in-Ok-clause-answer : goal.returns-in-Ok-clause-answer
returns-in-Ok-clause-answer g c =
    let contents = map vec_items c.args.contents.now in
    let name = c.args.name.now in
    let checks = c.in-Ok.ensures.value in
    let a = c.in-Ok.a in
    let x = checks.1.0 in
    let P = Second name (word_at contents 1) in
    let own = Second name c.content_at-in-Ok.result.now (checked_file a x) in
    let before = g.H.Shelf.state c.args.shelf.now in
    let after = g.H.Shelf.state c.answer_to_second.new.shelf in
    IfOk-weaker c.answer_to_second.result (λ answer. StoresFirst own (answer_data answer) before after) (λ answer. StoresFirst (IsMergeAnswer name contents) (answer_data answer) before after)
    (λ answer first. first_weaker own (IsMergeAnswer name contents) (answer_data answer) before after
    (λ whole is. text_accepted 1 P (word_at contents 0) a x whole (checks.0 ∙ c.content_at.ensures) checks.1.1 (subst (λ (text : List ℕ). Second name text (checked_file a x) whole) c.content_at-in-Ok.ensures is)) first)
    (c.answer_to_second.ensures.answer x checks.1.1)

pub returns-in-Ok-clause-begins : goal.returns-in-Ok-clause-begins
returns-in-Ok-clause-begins g c =
    let contents = map vec_items c.args.contents.now in
    let name = c.args.name.now in
    let checks = c.in-Ok.ensures.value in
    let a = c.in-Ok.a in
    let x = checks.1.0 in
    let P = Second name (word_at contents 1) in
    begun_weaker (Second name c.content_at-in-Ok.result.now (checked_file a x)) (IsMergeAnswer name contents) c.answer_to_second.result (g.H.Shelf.state c.args.shelf.now) (g.H.Shelf.state c.answer_to_second.new.shelf)
    (λ whole is. text_accepted 1 P (word_at contents 0) a x whole (checks.0 ∙ c.content_at.ensures) checks.1.1 (subst (λ (text : List ℕ). Second name text (checked_file a x) whole) c.content_at-in-Ok.ensures is))
    (c.answer_to_second.ensures.begins x checks.1.1)

pub returns-in_ok-table_stopped-in-Err-clause-answer : goal.returns-in_ok-table_stopped-in-Err-clause-answer
returns-in_ok-table_stopped-in-Err-clause-answer g c =
    let contents = map vec_items c.args.contents.now in
    let name = c.args.name.now in
    let P = Second name (word_at contents 1) in
    let answer = answer_data c.in_ok-table_stopped-in-Err.field-0 in
    let checks = subst (λ (text : List ℕ). StopsAt text c.in-Err.stop) c.content_at.ensures c.in-Err.ensures.value in
    nothing_first (IsMergeAnswer name contents) answer (g.H.Shelf.state c.args.shelf.now) (table_refused 1 P (word_at contents 0) c.in-Err.stop answer checks c.in_ok-table_stopped-in-Err.ensures.answer)
