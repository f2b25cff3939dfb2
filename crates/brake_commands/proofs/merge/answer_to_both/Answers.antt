use Rattle.std.proofs.lemmas.Result.{IfOk-weaker}
use Rattle.command_runner.specs.Answers.{answer_data}
use Rattle.command_runner.specs.Ends.{StoresFirst}
use Rattle.command_runner.proofs.Rests.{nothing_first}
use Rattle.brake_commands.specs.TableStops.{checked_file}
use Rattle.brake_commands.specs.MergeAnswer.{IsMergedAnswer, AnswersBoth}
use Rattle.brake_commands.proofs.PlanAnswers.{begun_weaker}
use Rattle.brake_commands.proofs.Begun.{first_weaker}
use Rattle.brake_commands.proofs.TableAnswers.{one_job_answers, other_job_answers}
use Rattle.brake_commands.proofs.merge.answer_to_both.Goals as goal

pub returns-then-same-clause-answer : goal.returns-then-same-clause-answer
returns-then-same-clause-answer g c = λ x y first second.
    let name = c.args.name.now in
    let a = checked_file c.args.a.now x in
    let b = checked_file c.args.b.now y in
    let P = IsMergedAnswer name a b in
    let one = c.in_ok-same.ensures.0 c.if-same.true in
    let before = g.H.Shelf.state c.args.shelf.now in
    let after = g.H.Shelf.state c.merged_answer.new.shelf in
    IfOk-weaker c.merged_answer.result (λ answer. StoresFirst P (answer_data answer) before after) (λ answer. StoresFirst (AnswersBoth name a b) (answer_data answer) before after)
    (λ answer stores. first_weaker P (AnswersBoth name a b) (answer_data answer) before after (λ whole is. one_job_answers a.job b.job P whole one is) stores)
    (c.merged_answer.ensures.answer x y first second)

pub returns-then-same-clause-begins : goal.returns-then-same-clause-begins
returns-then-same-clause-begins g c = λ x y first second.
    let name = c.args.name.now in
    let a = checked_file c.args.a.now x in
    let b = checked_file c.args.b.now y in
    let P = IsMergedAnswer name a b in
    let one = c.in_ok-same.ensures.0 c.if-same.true in
    begun_weaker P (AnswersBoth name a b) c.merged_answer.result (g.H.Shelf.state c.args.shelf.now) (g.H.Shelf.state c.merged_answer.new.shelf)
    (λ whole is. one_job_answers a.job b.job P whole one is) (c.merged_answer.ensures.begins x y first second)

pub returns-in_ok-other_job-clause-answer : goal.returns-in_ok-other_job-clause-answer
returns-in_ok-other_job-clause-answer g c = λ x y first second.
    let name = c.args.name.now in
    let a = checked_file c.args.a.now x in
    let b = checked_file c.args.b.now y in
    let answer = answer_data c.in_ok-other_job.field-0 in
    nothing_first (AnswersBoth name a b) answer (g.H.Shelf.state c.args.shelf.now)
    (other_job_answers a.job b.job (IsMergedAnswer name a b) answer (λ one. let yes = c.in_ok-same.ensures.1 one in let no = c.if-same.false in cc) c.in_ok-other_job.ensures.answer)
