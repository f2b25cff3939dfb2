use Rattle.std.proofs.Common.{◌≡◌, pos, get_or, refl}
use Rattle.std.proofs.lemmas.List.{get_or_default}
use Rattle.piece_pick.proofs.Drawn.{none_within, none_in_slice, none_after}
use Rattle.piece_pick.proofs.piece_search.PieceSearch.+making_up.Goals as goal

pub may_make_up-returns-then-not-is_within_reach-clause-none :
    goal.may_make_up-returns-then-not-is_within_reach-clause-none
may_make_up-returns-then-not-is_within_reach-clause-none t c =
    λ _. none_in_slice c.args.self.now.supply.items c.as_slice.result.now c.args.from c.args.room c.args.rest.now c.args.self.now.supply_is
    c.as_slice.ensures.value (c.if-not-is_within_reach.ensures.short refl)

pub may_go_on-returns-clause-none : goal.may_go_on-returns-clause-none
may_go_on-returns-clause-none t c =
    let supply = c.args.self.now.supply.items in
    let x = get_or supply c.args.from (pos 0) in
    let here : get_or supply c.args.from x ≡ x = get_or_default supply c.args.from x (pos 0) c.requires.from in
    λ no. none_within supply c.args.from c.args.room x c.args.rest.now c.args.self.now.supply_is c.requires.from here c.requires.rest
    (c.if-may_take.ensures.none refl x here)
    (none_after supply c.may_take.new.self.supply.items c.args.from c.after-next.result c.args.room x c.args.rest.now c.may_take.ensures.same_supply
    (c.after-next.ensures.value x) here (c.may_make_up.ensures.none no))
