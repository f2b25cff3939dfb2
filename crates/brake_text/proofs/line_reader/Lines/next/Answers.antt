use Rattle.std.proofs.Common.{◌+◌, ◌∷◌, ◌++◌, take, ap, sym, ◌∙◌}
use Rattle.std.proofs.lemmas.List.{take_rest}
use Rattle.brake_text.proofs.FirstLine.{first_line-ended, first_line-last}
use Rattle.brake_text.proofs.line_reader.Lines.next.Goals as goal

pub returns-in-Some-clause-whole : goal.returns-in-Some-clause-whole
returns-in-Some-clause-whole c =
    let text = c.self.inside.rest.now in
    let at = c.in-Some.at in
    let line = first_line-ended text at (sym c.first_line_feed.ensures ∙ c.in-Some.is) in
    (sym c.self.view_is ∙ line.0 ∙ ap (λ rest. take at text ++ 10 ∷ rest) (sym (take_rest text (at + 1))), line.1)

pub returns-in-None-clause-whole : goal.returns-in-None-clause-whole
returns-in-None-clause-whole c =
    let line = first_line-last c.self.inside.rest.now (sym c.first_line_feed.ensures ∙ c.in-None.is) in
    (sym c.self.view_is ∙ line.0, line.1, line.2)
