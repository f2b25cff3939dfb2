use Rattle.std.proofs.Common.{arith}
use Rattle.std.proofs.lemmas.Int.{ints}
use Rattle.sheet_views.proofs.LeastRects.{two_points}
use Rattle.sheet_views.proofs.side_view.tools_area.Goals as goal

pub returns : goal.returns
returns c =
    let v = c.requires.stage.die.sizes.v.range in
    let reach = c.die_reach-reach.ensures in
    two_points _ _ _ _ _ _ _ _ _ (c.with_point.ensures _ c.only.ensures) (omega (arith, ints, reach.value, reach.low, reach.high))
    (omega (arith, ints, c.requires.thin, c.requires.thick, v.bottom, v.top)) (omega (arith, ints, reach.value)) (omega (arith, ints, c.top_of_view.ensures))
