use Rattle.std.proofs.Common.{arith}
use Rattle.std.proofs.lemmas.Int.{ints, clamps}
use Rattle.sheet_views.proofs.side_view.top_of_view.Goals as goal

pub returns : goal.returns
returns c =
    let v = c.requires.die.sizes.v.range in
    let nose = c.requires.punch.sizes.nose in
    let height = c.requires.punch.sizes.height in
    omega (arith, ints, clamps, v.bottom, v.top, nose.bottom, nose.top, height.bottom, height.top)
