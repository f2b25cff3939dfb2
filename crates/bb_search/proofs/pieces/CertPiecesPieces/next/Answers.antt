use Rattle.std.proofs.Common.{◌≡◌, ◌==◌, ◌∙◌, ap, ℕ, [], length, vec_len, None, true, false, rules}
use Rattle.bb_search.proofs.GoingOn.{empty_is, none_is, not_true, not_false, nothing_left, end_given}
use Rattle.bb_search.proofs.pieces.CertPiecesPieces.next.Goals as goal

pub returns-in_ok-put_word-2-clause-piece : goal.returns-in_ok-put_word-2-clause-piece
returns-in_ok-put_word-2-clause-piece c =
    let inside = c.self.inside in
    let long : vec_len inside.beginning ≡ length inside.beginning.items = search rules in
    let none : inside.beginning.items ≡ [] = empty_is inside.beginning.items c.is_empty.result (c.is_empty.ensures ∙ ap (λ (n : ℕ). n == 0) long) (search rules) in
    let last : c.in_ok-self-inside.field-0 ≡ None = none_is c.in_ok-self-inside.field-0 c.is_some.result c.is_some.ensures (search rules) in
    let opens : inside.is_ended ≡ false = search (rules, not_true, not_false) in
    end_given inside.pool inside.stages inside.next c.in_ok-self-inside.field-0 inside.is_ended inside.beginning.items c.args.self.now c.args.out.now.items c.put_rows.new.out.items c.put_word-then-not-self.new.out.items
    none c.in_ok-self-inside.ensures.rows last opens c.self.view_is c.in_ok-put_word-2.ensures.ok

pub returns-in_ok-put_word-2-clause-last : goal.returns-in_ok-put_word-2-clause-last
returns-in_ok-put_word-2-clause-last c = λ _.
    let inside = c.self.inside in
    let long : vec_len inside.beginning ≡ length inside.beginning.items = search rules in
    let none : inside.beginning.items ≡ [] = empty_is inside.beginning.items c.is_empty.result (c.is_empty.ensures ∙ ap (λ (n : ℕ). n == 0) long) (search rules) in
    let last : c.in_ok-self-inside.field-0 ≡ None = none_is c.in_ok-self-inside.field-0 c.is_some.result c.is_some.ensures (search rules) in
    nothing_left inside.pool inside.stages inside.beginning.items c.in_ok-self-inside.field-0 true none last (search rules)

pub returns-else-not-self-clause-last : goal.returns-else-not-self-clause-last
returns-else-not-self-clause-last c = λ _.
    let inside = c.self.inside in
    let long : vec_len inside.beginning ≡ length inside.beginning.items = search rules in
    let none : inside.beginning.items ≡ [] = empty_is inside.beginning.items c.is_empty.result (c.is_empty.ensures ∙ ap (λ (n : ℕ). n == 0) long) (search rules) in
    let last : c.in_ok-self-inside.field-0 ≡ None = none_is c.in_ok-self-inside.field-0 c.is_some.result c.is_some.ensures (search rules) in
    let ended : inside.is_ended ≡ true = search (rules, not_true, not_false) in
    nothing_left inside.pool inside.stages inside.beginning.items c.in_ok-self-inside.field-0 inside.is_ended none last ended
