use Rattle.std.proofs.Common.{map, string_bytes}
use Rattle.command_runner.specs.Answers.{answer_data, after_storing}
use Rattle.command_runner.specs.Ends.{answers, cut_short}
use Rattle.command_runner.proofs.Outcomes.{outcome_of}
use Rattle.command_runner.proofs.Rests.{delivers_after, ends_early, may_fault_later, counts_later}
use Rattle.command_runner.proofs.running.run.Goals as goal

pub returns-in-Ok-clause-ends : goal.returns-in-Ok-clause-ends
returns-in-Ok-clause-ends g c =
    let left = c.in-Ok.ensures.ok in
    let first = left.stores.first in
    answers (after_storing first (answer_data c.in-Ok.answer)) left.between left.fetches left.stores.is_one
    (delivers_after first (answer_data c.in-Ok.answer) left.between (g.H.Shelf.state c.answer_of.new.shelf) (g.K.Sink.state c.args.out.now) _ _ left.stores.are_stored left.stores.faults c.deliver.ensures.delivers)

pub returns-in-Ok-clause-outcome : goal.returns-in-Ok-clause-outcome
returns-in-Ok-clause-outcome g c = outcome_of _ _ _ _ _ _ _ (returns-in-Ok-clause-ends g c)

pub returns-in-Err-clause-ends : goal.returns-in-Err-clause-ends
returns-in-Err-clause-ends g c = ends_early _ _ _ _ _ _ (g.K.Sink.state c.args.out.now) _ c.in-Err.ensures.err c.in-Err.ensures.stops

pub returns-in-Err-clause-outcome : goal.returns-in-Err-clause-outcome
returns-in-Err-clause-outcome g c = cut_short c.in-Err.ensures.err

pub returns-in-Ok-clause-cause : goal.returns-in-Ok-clause-cause
returns-in-Ok-clause-cause g c = λ fault.
    may_fault_later (g.C.Command.form c.args.command.now) (g.C.Command.meaning c.args.command.now) (map string_bytes c.args.words.now) (answer_data c.in-Ok.answer)
    (g.H.Shelf.state c.args.shelf.now) (g.H.Shelf.state c.answer_of.new.shelf) (g.H.Shelf.state c.deliver.new.shelf) _ c.in-Ok.ensures.ok c.in-Ok.ensures.never_falls.calls (c.deliver.ensures.cause fault)

pub returns-in-Ok-clause-fault : goal.returns-in-Ok-clause-fault
returns-in-Ok-clause-fault g c = λ fault.
    counts_later (g.C.Command.form c.args.command.now) (g.C.Command.meaning c.args.command.now) (map string_bytes c.args.words.now) (answer_data c.in-Ok.answer)
    (g.H.Shelf.state c.args.shelf.now) (g.H.Shelf.state c.answer_of.new.shelf) (g.H.Shelf.state c.deliver.new.shelf) _ c.in-Ok.ensures.ok (c.deliver.ensures.fault fault)
