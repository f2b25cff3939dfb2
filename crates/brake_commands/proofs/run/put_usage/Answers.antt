use Rattle.std.proofs.Common.{Ok, [], refl, arith}
use Rattle.command_runner.specs.Answers.{answer_data}
use Rattle.command_runner.specs.Fetching.{all_fetched}
use Rattle.command_runner.specs.Ends.{answers}
use Rattle.brake_commands.proofs.run.put_usage.Goals as goal

pub returns-in-Ok-clause-ends : goal.returns-in-Ok-clause-ends
returns-in-Ok-clause-ends g c = λ words.
    answers (answer_data c.in-Ok.answer) (g.H.Shelf.state c.args.shelf.now)
    (record { content = refl; calls = omega arith })
    (record { fetched = Ok []; is_fetched = all_fetched [] tt refl refl; is_answer = c.in-Ok.ensures.answer; faults = refl })
    c.deliver.ensures.delivers
