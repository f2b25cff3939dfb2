use Rattle.std.proofs.Common.{sym, ◌∙◌, ap, Some}
use Rattle.cert_words.proofs.FrontNumbers.{leading_there, no_leading}
use Rattle.cert_words.proofs.front_number.leading_number.Goals as goal

pub returns : goal.returns
returns c =
    let d = c.front_digits-digits.result in
    leading_there c.args.text.now d c.front_digits-digits.ensures (sym c.is_spelled.ensures ∙ c.if-not-is_spelled.false) ∙ ap (λ rest. Some (d.value, rest)) (sym c.split_at.ensures.back)

pub returns-then-not-is_spelled : goal.returns-then-not-is_spelled
returns-then-not-is_spelled c = no_leading c.args.text.now c.front_digits-digits.result c.front_digits-digits.ensures (sym c.is_spelled.ensures ∙ c.if-not-is_spelled.true)
