use Rattle.std.proofs.Common.{◌≡◌, ◌==◌, ◌-◌, ◌≤◌, ◌∙◌, ap, sym, ℕ, [], ◌++◌, length, vec_len, true, false, rules}
use Rattle.cert_merge.specs.SettledPieces.{rest_text}
use Rattle.cert_merge.proofs.PieceTexts.{none_gone}
use Rattle.cert_merge.proofs.TextEnds.{behind_given, empty_is, end_given, none_given, not_false, not_true, nothing_left}
use Rattle.cert_merge.proofs.settled_pieces.SettledPiecesPieces.next.Goals as goal

pub returns-then-not-is_empty-3-clause-piece : goal.returns-then-not-is_empty-3-clause-piece
returns-then-not-is_empty-3-clause-piece c =
    let inside = c.self.inside in
    let long : vec_len inside.beginning ≡ length inside.beginning.items = search rules in
    let none : inside.beginning.items ≡ [] = empty_is inside.beginning.items c.is_empty.result (c.is_empty.ensures ∙ ap (λ (n : ℕ). n == 0) long) (search rules) in
    let first : inside.before.now ≡ [] = empty_is inside.before.now c.is_empty-2.result c.is_empty-2.ensures (search rules) in
    let few : length c.put_rows.new.out.items ≤ length c.args.out.now.items = search rules in
    let gone = none_gone inside.settled inside.stages inside.end inside.next c.in-Ok.next c.args.out.now.items c.put_rows.new.out.items c.in-Ok.ensures.rows c.in-Ok.ensures.more few in
    behind_given inside.beginning.items inside.before.now (rest_text inside.settled inside.stages inside.next (inside.end - inside.next)) (rest_text inside.settled inside.stages c.in-Ok.next (inside.end - c.in-Ok.next)) inside.behind.now c.next-then-not-is_empty-3.new.self.now c.args.self.now c.args.out.now.items
    c.put_rows.new.out.items c.next-then-not-is_empty-3.new.out.items inside.is_ended none first gone.1 gone.2 gone.0 c.in_ok-next-2.ensures.piece c.self.view_is

pub returns-in_ok-put_word-2-clause-piece : goal.returns-in_ok-put_word-2-clause-piece
returns-in_ok-put_word-2-clause-piece c =
    let inside = c.self.inside in
    let long : vec_len inside.beginning ≡ length inside.beginning.items = search rules in
    let none : inside.beginning.items ≡ [] = empty_is inside.beginning.items c.is_empty.result (c.is_empty.ensures ∙ ap (λ (n : ℕ). n == 0) long) (search rules) in
    let first : inside.before.now ≡ [] = empty_is inside.before.now c.is_empty-2.result c.is_empty-2.ensures (search rules) in
    let last : inside.behind.now ≡ [] = empty_is inside.behind.now c.is_empty-3.result c.is_empty-3.ensures (search rules) in
    let few : length c.put_rows.new.out.items ≤ length c.args.out.now.items = search rules in
    let gone = none_gone inside.settled inside.stages inside.end inside.next c.in-Ok.next c.args.out.now.items c.put_rows.new.out.items c.in-Ok.ensures.rows c.in-Ok.ensures.more few in
    let opens : inside.is_ended ≡ false = search (rules, not_true, not_false) in
    let from = inside.before.now ++ (rest_text inside.settled inside.stages inside.next (inside.end - inside.next) ++ inside.behind.now) in
    let next = inside.before.now ++ (rest_text inside.settled inside.stages c.in-Ok.next (inside.end - c.in-Ok.next) ++ inside.behind.now) in
    let past : next ≡ [] = (λ i. first i ++ (gone.2 i ++ last i)) in
    let all : from ≡ [] = (λ i. first i ++ (gone.1 i ++ last i)) in
    end_given from next inside.is_ended inside.beginning.items c.args.self.now c.args.out.now.items c.put_rows.new.out.items c.put_word-then-not-self.new.out.items
    none (none_given c.args.out.now.items c.put_rows.new.out.items from next gone.0 (all ∙ sym past)) past opens c.self.view_is c.in_ok-put_word-2.ensures.ok

pub returns-in_ok-put_word-2-clause-last : goal.returns-in_ok-put_word-2-clause-last
returns-in_ok-put_word-2-clause-last c = λ _.
    let inside = c.self.inside in
    let long : vec_len inside.beginning ≡ length inside.beginning.items = search rules in
    let none : inside.beginning.items ≡ [] = empty_is inside.beginning.items c.is_empty.result (c.is_empty.ensures ∙ ap (λ (n : ℕ). n == 0) long) (search rules) in
    let first : inside.before.now ≡ [] = empty_is inside.before.now c.is_empty-2.result c.is_empty-2.ensures (search rules) in
    let last : inside.behind.now ≡ [] = empty_is inside.behind.now c.is_empty-3.result c.is_empty-3.ensures (search rules) in
    let few : length c.put_rows.new.out.items ≤ length c.args.out.now.items = search rules in
    let gone = none_gone inside.settled inside.stages inside.end inside.next c.in-Ok.next c.args.out.now.items c.put_rows.new.out.items c.in-Ok.ensures.rows c.in-Ok.ensures.more few in
    let next = inside.before.now ++ (rest_text inside.settled inside.stages c.in-Ok.next (inside.end - c.in-Ok.next) ++ inside.behind.now) in
    nothing_left inside.beginning.items next true none (λ i. first i ++ (gone.2 i ++ last i)) (search rules)

pub returns-else-not-self-clause-last : goal.returns-else-not-self-clause-last
returns-else-not-self-clause-last c = λ _.
    let inside = c.self.inside in
    let long : vec_len inside.beginning ≡ length inside.beginning.items = search rules in
    let none : inside.beginning.items ≡ [] = empty_is inside.beginning.items c.is_empty.result (c.is_empty.ensures ∙ ap (λ (n : ℕ). n == 0) long) (search rules) in
    let first : inside.before.now ≡ [] = empty_is inside.before.now c.is_empty-2.result c.is_empty-2.ensures (search rules) in
    let last : inside.behind.now ≡ [] = empty_is inside.behind.now c.is_empty-3.result c.is_empty-3.ensures (search rules) in
    let few : length c.put_rows.new.out.items ≤ length c.args.out.now.items = search rules in
    let gone = none_gone inside.settled inside.stages inside.end inside.next c.in-Ok.next c.args.out.now.items c.put_rows.new.out.items c.in-Ok.ensures.rows c.in-Ok.ensures.more few in
    let next = inside.before.now ++ (rest_text inside.settled inside.stages c.in-Ok.next (inside.end - c.in-Ok.next) ++ inside.behind.now) in
    let ended : inside.is_ended ≡ true = search (rules, not_true, not_false) in
    nothing_left inside.beginning.items next inside.is_ended none (λ i. first i ++ (gone.2 i ++ last i)) ended
