use Rattle.std.proofs.Common.{◌≡◌, ◌==◌, ◌≤◌, ◌∙◌, ap, ℕ, [], drop, length, vec_len, true, false, rules}
use Rattle.cert_merge.specs.MergedRows.{parts_text}
use Rattle.cert_merge.proofs.MergedParts.{none_left}
use Rattle.cert_merge.proofs.TextEnds.{empty_is, not_true, not_false, nothing_left, end_given}
use Rattle.cert_merge.proofs.merged_text.MergedTextPieces.next.Goals as goal

pub returns-in_ok-put_word-2-clause-piece : goal.returns-in_ok-put_word-2-clause-piece
returns-in_ok-put_word-2-clause-piece c =
    let inside = c.self.inside in
    let next = c.in_ok-self-inside.field-0 in
    let long : vec_len inside.beginning ≡ length inside.beginning.items = search rules in
    let none : inside.beginning.items ≡ [] = empty_is inside.beginning.items c.is_empty.result (c.is_empty.ensures ∙ ap (λ (n : ℕ). n == 0) long) (search rules) in
    let past : length inside.parts.now ≤ next = search rules in
    let opens : inside.is_ended ≡ false = search (rules, not_true, not_false) in
    end_given (parts_text inside.joined.now (drop inside.next inside.parts.now)) (parts_text inside.joined.now (drop next inside.parts.now)) inside.is_ended inside.beginning.items c.args.self.now c.args.out.now.items c.put_parts.new.out.items
    c.put_word-then-not-self.new.out.items none c.in_ok-self-inside.ensures.text (none_left inside.joined.now inside.parts.now next past) opens c.self.view_is c.in_ok-put_word-2.ensures.ok

pub returns-in_ok-put_word-2-clause-last : goal.returns-in_ok-put_word-2-clause-last
returns-in_ok-put_word-2-clause-last c = λ _.
    let inside = c.self.inside in
    let next = c.in_ok-self-inside.field-0 in
    let long : vec_len inside.beginning ≡ length inside.beginning.items = search rules in
    let none : inside.beginning.items ≡ [] = empty_is inside.beginning.items c.is_empty.result (c.is_empty.ensures ∙ ap (λ (n : ℕ). n == 0) long) (search rules) in
    let past : length inside.parts.now ≤ next = search rules in
    nothing_left inside.beginning.items (parts_text inside.joined.now (drop next inside.parts.now)) true none (none_left inside.joined.now inside.parts.now next past) (search rules)

pub returns-else-not-self-clause-last : goal.returns-else-not-self-clause-last
returns-else-not-self-clause-last c = λ _.
    let inside = c.self.inside in
    let next = c.in_ok-self-inside.field-0 in
    let long : vec_len inside.beginning ≡ length inside.beginning.items = search rules in
    let none : inside.beginning.items ≡ [] = empty_is inside.beginning.items c.is_empty.result (c.is_empty.ensures ∙ ap (λ (n : ℕ). n == 0) long) (search rules) in
    let past : length inside.parts.now ≤ next = search rules in
    let ended : inside.is_ended ≡ true = search (rules, not_true, not_false) in
    nothing_left inside.beginning.items (parts_text inside.joined.now (drop next inside.parts.now)) inside.is_ended none (none_left inside.joined.now inside.parts.now next past) ended
