use Rattle.std.proofs.Common.{ap, arith}
use Rattle.std.proofs.lemmas.Int.{ints}
use Rattle.unfolder.specs.declared.blank.FlatRect.{FlatRect}
use Rattle.fold_boxes.proofs.shape.core.Goals as goal

pub returns-clause-width : goal.returns-clause-width
returns-clause-width c =
    let near = c.core-core.ensures.near in
    let x0 = near.x0 in
    let x1 = near.x1 in
    let low = ap (λ (r : FlatRect). r.x0) c.core-core.ensures.value in
    let high = ap (λ (r : FlatRect). r.x1) c.core-core.ensures.value in
    omega (arith, ints, x0.low, x0.high, x1.low, x1.high, low, high)

pub returns-clause-length : goal.returns-clause-length
returns-clause-length c =
    let near = c.core-core.ensures.near in
    let y0 = near.y0 in
    let y1 = near.y1 in
    let low = ap (λ (r : FlatRect). r.y0) c.core-core.ensures.value in
    let high = ap (λ (r : FlatRect). r.y1) c.core-core.ensures.value in
    omega (arith, ints, y0.low, y0.high, y1.low, y1.high, low, high)
