use Rattle.std.proofs.Common.{FitsSigned, to_z-of_z, w64, rules}
use Rattle.box_paint.specs.Painting.{ahead}
use Rattle.box_paint.proofs.Hiding.{further_is}
use Rattle.box_paint.proofs.order.is_further.Goals as goal

pub returns : goal.returns
returns c =
    let a = c.args.a.now in
    let b = c.args.b.now in
    let back : FitsSigned w64 c.ahead-back.result = search rules in
    let front : FitsSigned w64 c.ahead-front.result = search rules in
    let least : FitsSigned w64 c.min.result = search rules in
    let value = simp (to_z-of_z front) at c.min.ensures.value in
    simp (to_z-of_z back, to_z-of_z least)
    (further_is c.ahead-back.result c.ahead-front.result c.min.result (ahead b a) (ahead a b) c.ahead-back.ensures c.ahead-front.ensures value)
