use Rattle.std.proofs.Common.{◌≡◌, ◌∙◌, ◌<◌, false, true, length, get_or, arith}
use Rattle.std.proofs.lemmas.List.{get_or_default}
use Rattle.box_paint.proofs.Orders.{awaited}
use Rattle.box_paint.proofs.order.is_awaited.Goals as goal

pub returns-then-not-taken-first : goal.returns-then-not-taken-first
returns-then-not-taken-first c =
    let boxes = c.args.boxes.now in
    let taken = c.args.taken.now in
    let size = c.told-taken in
    let few = c.requires.few in
    let some = c.requires.first in
    let first : c.args.first < length taken = omega arith in
    let unmarked : get_or taken c.args.first true ≡ false = get_or_default taken c.args.first true false first ∙ c.if-not-taken-first.true in
    λ d. (
      λ t. (unmarked, awaited boxes c.args.first c.args.second d d _ _ c.requires.first c.requires.second (c.must_precede.ensures.0 t)),
      λ h. c.must_precede.ensures.1 (awaited boxes c.args.first c.args.second _ _ d d c.requires.first c.requires.second h.1),
    )
