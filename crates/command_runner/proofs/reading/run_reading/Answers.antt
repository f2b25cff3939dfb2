use Rattle.command_runner.specs.Answers.{answer_data, after_storing}
use Rattle.command_runner.specs.Ends.{answers}
use Rattle.command_runner.proofs.Outcomes.{outcome_of}
use Rattle.command_runner.proofs.Rests.{delivers_after}
use Rattle.command_runner.proofs.reading.run_reading.Goals as goal

pub returns-in-Ok-clause-ends : goal.returns-in-Ok-clause-ends
returns-in-Ok-clause-ends g c =
    let left = c.in-Ok.ensures.ok in
    let first = left.stores.first in
    answers (after_storing first (answer_data c.in-Ok.answer)) left.between left.fetches left.stores.is_one
    (delivers_after first (answer_data c.in-Ok.answer) left.between (g.H.Shelf.state c.answer_of_reading.new.shelf) (g.K.Sink.state c.args.out.now) _ _ left.stores.are_stored left.stores.faults c.deliver.ensures.delivers)

pub returns-in-Ok-clause-outcome : goal.returns-in-Ok-clause-outcome
returns-in-Ok-clause-outcome g c = outcome_of _ _ _ _ _ _ _ (returns-in-Ok-clause-ends g c)
