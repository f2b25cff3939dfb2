use Rattle.std.proofs.Common.{◌≡◌, ◌∙◌}
use Rattle.setup_choice.specs.FaultNumbers.{setup_numbers}
use Rattle.brake_commands.proofs.setup_list.setups_stopped.Goals as goal

pub returns-in-Setups-clause-answer : goal.returns-in-Setups-clause-answer
returns-in-Setups-clause-answer c =
    let numbers : c.as_slice.result.now ≡ setup_numbers c.in-Setups.fault = c.as_slice.ensures.value ∙ c.numbers-numbers.ensures in
    rw c.in-Setups.is (rw numbers at c.refusal.ensures.answer)
