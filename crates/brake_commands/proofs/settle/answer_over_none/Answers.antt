use Rattle.std.proofs.Common.{[], refl}
use Rattle.cert_merge.specs.TableTexts.{empty_table}
use Rattle.command_runner.specs.Answers.{one_stored}
use Rattle.brake_commands.specs.TableAnswer.{told_answer}
use Rattle.brake_commands.specs.SettleAnswer.{IsSettledAnswer}
use Rattle.brake_commands.proofs.TableAnswers.{settled_text_answers, stored_first, stored_begun}
use Rattle.brake_commands.proofs.settle.answer_over_none.Goals as goal

pub settled_text_answer-requires-clause-worth : goal.settled_text_answer-requires-clause-worth
settled_text_answer-requires-clause-worth g c = c.in_ok-settled.ensures.small

pub returns-clause-answer : goal.returns-clause-answer
returns-clause-answer g c =
    let name = c.args.name.now in
    let range = c.args.range in
    let job = c.args.job.now in
    let told = c.in_ok-settled.settled in
    let stored = c.settled_text_answer in
    stored_first (IsSettledAnswer name range.low range.high empty_table job) (one_stored name told.text) (told_answer [] told.rows told.at_start)
    (settled_text_answers name range.low range.high empty_table job told (told_answer (one_stored name told.text) told.rows told.at_start) c.in_ok-settled.ensures refl) refl
    stored.result (g.H.Shelf.state c.args.shelf.now) (g.H.Shelf.state stored.new.shelf) stored.ensures.answer stored.ensures.ok stored.ensures.faults

pub returns-clause-begins : goal.returns-clause-begins
returns-clause-begins g c =
    let name = c.args.name.now in
    let range = c.args.range in
    let job = c.args.job.now in
    let told = c.in_ok-settled.settled in
    let stored = c.settled_text_answer in
    stored_begun (IsSettledAnswer name range.low range.high empty_table job) (one_stored name told.text) (told_answer [] told.rows told.at_start)
    (settled_text_answers name range.low range.high empty_table job told (told_answer (one_stored name told.text) told.rows told.at_start) c.in_ok-settled.ensures refl) refl
    stored.result (g.H.Shelf.state c.args.shelf.now) (g.H.Shelf.state stored.new.shelf) stored.ensures.err
