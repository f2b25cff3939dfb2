use Rattle.std.proofs.Common.{arith}
use Rattle.std.proofs.lemmas.Int.{ints}
use Rattle.box_paint.proofs.Hiding.{same_box}
use Rattle.box_paint.proofs.order.shadow.Goals as goal

pub returns : goal.returns
returns c =
    same_box _ _ (omega (arith, ints)) (omega (arith, ints)) (omega (arith, ints)) (omega (arith, ints)) (omega (arith, ints)) (omega (arith, ints))
