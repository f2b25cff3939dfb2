use Rattle.std.proofs.Common.{◌≡◌, ◌∙◌, List, [], ◌∷◌, ◌++◌, sym, ap, subst}
use Rattle.std.proofs.lemmas.Bool.{true≢false}
use Rattle.brake_base.specs.declared.stroke.Key.{Key}
use Rattle.nogood_book.specs.declared.nogood.Nogood.{Nogood}
use Rattle.nogood_book.specs.Nogood.{key_at}
use Rattle.nogood_book.specs.Book.{Grows, learns, stays}
use Rattle.nogood_book.proofs.Posed.{at_same}
use Rattle.nogood_book.proofs.Growth.{opposing, opposes, unopposed}
use Rattle.nogood_book.proofs.book.grow_by.Goals as goal

pub returns-then-not-is_action_at-clause-list : goal.returns-then-not-is_action_at-clause-list
returns-then-not-is_action_at-clause-list c =
    let same = ap (λ (key : Key). key.mask) c.key_at.ensures in
    stays (λ at opposed. absurd (true≢false (sym (c.is_action_at.ensures.1 (at_same c.args.job.now (key_at c.args.mask) c.key_at.result c.args.action (sym same) at)) ∙ c.if-not-is_action_at.true)))

pub learned-requires-clause-holds : goal.learned-requires-clause-holds
learned-requires-clause-holds c =
    let mask = c.args.mask in
    opposes c.args.job.now mask c.args.action c.in-Some.reason (opposing c.args.job.now mask c.args.action c.in-Some.reason c.first_opposing.result c.first_opposing.ensures.first c.in-Some.is)

pub returns-in_ok-push-clause-list : goal.returns-in_ok-push-clause-list
returns-in_ok-push-clause-list c =
    let job = c.args.job.now in
    let same = ap (λ (key : Key). key.mask) c.key_at.ensures in
    let before = c.args.nogoods.now.items in
    let at = at_same job c.key_at.result (key_at c.args.mask) c.args.action same (c.is_action_at.ensures.0 c.if-not-is_action_at.false) in
    let first = opposing job c.args.mask c.args.action c.in-Some.reason c.first_opposing.result c.first_opposing.ensures.first c.in-Some.is in
    let items : c.push.new.self.items ≡ before ++ c.learned.result ∷ [] = c.in_ok-push.ensures.items in
    subst (λ (l : List Nogood). Grows job c.args.mask c.args.action before l) (sym (items ∙ ap (λ (nogood : Nogood). before ++ nogood ∷ []) c.learned.ensures.value))
    (learns c.in-Some.reason at first c.requires.new)

pub returns-in_default-clause-list : goal.returns-in_default-clause-list
returns-in_default-clause-list c = stays (λ at opposed. absurd (unopposed c.args.job.now c.args.mask c.args.action c.first_opposing.result c.first_opposing.ensures.first c.in_default.is opposed))
