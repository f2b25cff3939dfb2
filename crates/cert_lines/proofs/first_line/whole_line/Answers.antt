use Rattle.cert_lines.proofs.WholeLines.{first_line, uncut}
use Rattle.std.proofs.Common.{List, ℕ, ◌+◌, subst, sym, ◌∙◌, take}
use Rattle.std.proofs.lemmas.List.{take_rest}
use Rattle.cert_lines.specs.LineReading.{IsCut}
use Rattle.cert_lines.proofs.first_line.whole_line.Goals as goal

pub returns-in-Some-clause-some : goal.returns-in-Some-clause-some
returns-in-Some-clause-some c =
    let text = c.args.text.now in
    let at = c.in-Some.at in
    subst (λ (rest : List ℕ). IsCut text (take at text) rest) (sym (take_rest text (at + 1))) (first_line text at (sym c.first_line_feed.ensures ∙ c.in-Some.is))

pub returns-in-None-clause-none : goal.returns-in-None-clause-none
returns-in-None-clause-none c = λ _. uncut c.args.text.now (sym c.first_line_feed.ensures ∙ c.in-None.is)
