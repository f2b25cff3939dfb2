use Rattle.std.proofs.Common.{[], refl, arith}
use Rattle.command_runner.specs.Answers.{one_stored}
use Rattle.brake_commands.specs.TableAnswer.{told_answer}
use Rattle.brake_commands.specs.SettleAnswer.{IsSettledAnswer}
use Rattle.brake_commands.proofs.TableAnswers.{settled_text_answers, stored_first, stored_begun}
use Rattle.brake_commands.proofs.settle.settled_answer.Goals as goal

pub settled_text_answer-requires-clause-rows : goal.settled_text_answer-requires-clause-rows
settled_text_answer-requires-clause-rows g c =
    let base = c.requires.base in
    let few = (c.in_ok-settled.ensures base.0 base.1).few in
    omega (arith, few)

pub settled_text_answer-requires-clause-worth : goal.settled_text_answer-requires-clause-worth
settled_text_answer-requires-clause-worth g c = let base = c.requires.base in (c.in_ok-settled.ensures base.0 base.1).small

pub returns-clause-answer : goal.returns-clause-answer
returns-clause-answer g c = λ table of_base.
    let name = c.args.name.now in
    let range = c.args.range in
    let job = c.args.job.now in
    let told = c.in_ok-settled.settled in
    let stored = c.settled_text_answer in
    stored_first (IsSettledAnswer name range.low range.high table job) (one_stored name told.text) (told_answer [] told.rows told.at_start)
    (settled_text_answers name range.low range.high table job told (told_answer (one_stored name told.text) told.rows told.at_start) (c.in_ok-settled.ensures table of_base) refl) refl
    stored.result (g.H.Shelf.state c.args.shelf.now) (g.H.Shelf.state stored.new.shelf) stored.ensures.answer stored.ensures.ok stored.ensures.faults

pub returns-clause-begins : goal.returns-clause-begins
returns-clause-begins g c = λ table of_base.
    let name = c.args.name.now in
    let range = c.args.range in
    let job = c.args.job.now in
    let told = c.in_ok-settled.settled in
    let stored = c.settled_text_answer in
    stored_begun (IsSettledAnswer name range.low range.high table job) (one_stored name told.text) (told_answer [] told.rows told.at_start)
    (settled_text_answers name range.low range.high table job told (told_answer (one_stored name told.text) told.rows told.at_start) (c.in_ok-settled.ensures table of_base) refl) refl
    stored.result (g.H.Shelf.state c.args.shelf.now) (g.H.Shelf.state stored.new.shelf) stored.ensures.err
