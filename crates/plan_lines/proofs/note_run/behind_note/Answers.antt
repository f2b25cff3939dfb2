use Rattle.std.proofs.Common.{◌≡◌, List, ℕ, [], ◌∷◌, ◌++◌, None, Some, ap, sym, ◌∙◌, refl}
use Rattle.std.proofs.lemmas.Bool.Decides.{Decides-eqb}
use Rattle.std.proofs.lemmas.List.{append_assoc, append_cancel_left}
use Rattle.std.proofs.lemmas.Slice.Eq.{strip_prefix_is}
use Rattle.plan_lines.proofs.note_run.behind_note.Goals as goal

pub returns-clause-some : goal.returns-clause-some
returns-clause-some c =
    let text = c.args.text.now in
    let line = c.args.note.now.line.now in
    let whole : text ≡ line ++ c.in_ok-behind.behind.now = strip_prefix_is Decides-eqb text line (Some c.in_ok-behind.behind) c.in_ok-behind.ensures.cases in
    whole ∙ ap (λ (behind : List ℕ). line ++ behind) c.in_ok-rest.ensures.some ∙ sym (append_assoc line (10 ∷ []) c.in_ok-rest.rest.now)

pub returns-in_err-behind-clause-none : goal.returns-in_err-behind-clause-none
returns-in_err-behind-clause-none c = λ none rest e.
    let line = c.args.note.now.line.now in
    strip_prefix_is Decides-eqb c.args.text.now line None (c.in_err-behind.ensures.cases) (10 ∷ rest) (e ∙ append_assoc line (10 ∷ []) rest)

pub returns-in_err-rest-clause-none : goal.returns-in_err-rest-clause-none
returns-in_err-rest-clause-none c = λ none rest e.
    let text = c.args.text.now in
    let line = c.args.note.now.line.now in
    let whole : text ≡ line ++ c.in_ok-behind.behind.now = strip_prefix_is Decides-eqb text line (Some c.in_ok-behind.behind) c.in_ok-behind.ensures.cases in
    c.in_err-rest.ensures.none refl rest (append_cancel_left line c.in_ok-behind.behind.now (10 ∷ rest) (sym whole ∙ e ∙ append_assoc line (10 ∷ []) rest))
