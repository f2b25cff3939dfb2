use Rattle.std.proofs.Common.{arith}
use Rattle.std.proofs.lemmas.Int.{ints}
use Rattle.sheet_views.proofs.Reach.{same_box}
use Rattle.sheet_views.proofs.hazards.raised_box.Goals as goal

pub returns : goal.returns
returns c =
    let near = c.requires.near in
    same_box _ _ _ _ _ _ _ _ _ _ _ _ (omega (arith, ints)) (omega (arith, ints)) (omega (arith, ints, near.z0.0, near.z0.1, c.requires.low, c.requires.high)) (omega (arith, ints)) (omega (arith, ints)) (omega (arith, ints, near.z1.0, near.z1.1, c.requires.low, c.requires.high))
