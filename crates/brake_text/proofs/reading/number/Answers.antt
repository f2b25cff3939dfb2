use Rattle.std.proofs.Common.{sym, ◌∙◌}
use Rattle.brake_text.proofs.Numerals.{number-spelled}
use Rattle.brake_text.proofs.reading.number.Goals as goal

pub returns-then-is_number-clause-spelled : goal.returns-then-is_number-clause-spelled
returns-then-is_number-clause-spelled c =
    rw c.value_of.ensures (number-spelled c.args.text.now (sym c.is_number.ensures ∙ c.if-is_number.true))
