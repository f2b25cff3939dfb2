use Rattle.std.proofs.Common.{◌≡◌, ◌++◌, take}
use Rattle.command_runner.specs.Answers.{fields}
use Rattle.command_runner.proofs.answer.put_fields.Given as goal

abbrev pub invariant-loop-number : goal.invariant-loop-number
invariant-loop-number l = l.out.items ≡ l.initial.out.items ++ fields (take l.number-index l.numbers)
