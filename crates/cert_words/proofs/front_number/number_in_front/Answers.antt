use Rattle.std.proofs.Common.{◌==◌, sym, ◌∙◌, ap, inl, inr, Some}
use Rattle.std.proofs.lemmas.Bool.{eqb-true}
use Rattle.cert_words.specs.LineWords.{word_length}
use Rattle.cert_words.proofs.FrontNumbers.{number_there, none_there}
use Rattle.cert_words.proofs.front_number.number_in_front.Goals.{else-is_spelled-via-then-is_spelled+else-ends_word, else-is_spelled-via-else-is_spelled}
use Rattle.cert_words.proofs.front_number.number_in_front.Goals as goal

pub returns-then-ends_word : goal.returns-then-ends_word
returns-then-ends_word c =
    let d = c.front_digits-digits.result in
    let back = c.split_at.ensures.back in
    let ends = eqb-true (word_length c.split_at.result.1.now) 0 (sym c.ends_word.ensures ∙ c.if-ends_word.true) in
    number_there c.args.text.now d c.front_digits-digits.ensures (sym c.is_spelled.ensures ∙ c.if-is_spelled.true) (ap word_length (sym back) ∙ ends) ∙ ap (λ rest. Some (d.value, rest)) (sym back)

pub returns-else-is_spelled : goal.returns-else-is_spelled
returns-else-is_spelled c =
    let d = c.front_digits-digits.result in
    elim c.else-is_spelled.branch [
      | else-is_spelled-via-then-is_spelled+else-ends_word w ↦
          none_there c.args.text.now d c.front_digits-digits.ensures (inr (ap (λ rest. word_length rest == 0) (sym c.split_at.ensures.back) ∙ sym w.ends_word.ensures ∙ w.if-ends_word.false))
      | else-is_spelled-via-else-is_spelled w ↦ none_there c.args.text.now d c.front_digits-digits.ensures (inl (sym c.is_spelled.ensures ∙ w.if-is_spelled.false))
    ]
