use Rattle.std.proofs.Common.{◌∙◌}
use Rattle.std.specs.Prelude.{map, string_bytes}
use Rattle.brake_commands.proofs.FormApart.{words_told, setups_read}
use Rattle.brake_commands.proofs.command.read_words.Goals as goal

pub returns-clause-setups : goal.returns-clause-setups
returns-clause-setups c =
    let words = map string_bytes c.args.words.now in
    (λ is. words_told words c.read_by.result c.read_by.ensures.form is, λ are. c.read_by.ensures.value ∙ setups_read words are)
