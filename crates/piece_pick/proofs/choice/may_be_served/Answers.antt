use Rattle.std.proofs.Common.{List, ℤ, refl, subst}
use Rattle.piece_pick.specs.Search.{HasNoFill}
use Rattle.piece_pick.proofs.choice.may_be_served.Goals as goal

pub returns-then-not-may_divide : goal.returns-then-not-may_divide
returns-then-not-may_divide c =
    λ _. subst (λ (s : List ℤ). HasNoFill s c.args.want.now.length 32) c.as_slice.ensures.value (c.if-not-may_divide.ensures refl 32)

pub returns : goal.returns
returns c = λ other. subst (λ (s : List ℤ). HasNoFill s c.args.want.now.length 32) c.new-search.ensures.supply (c.may_make_up.ensures.none other)
