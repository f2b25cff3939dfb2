use Rattle.std.proofs.Common.{arith}
use Rattle.std.proofs.lemmas.Int.{ints}
use Rattle.sector_geom.proofs.PieceLaws.{same_rect}
use Rattle.sheet_views.proofs.LeastRects.{one_point}
use Rattle.sheet_views.proofs.side_view.only.Goals as goal

pub returns : goal.returns
returns c = one_point c.args.p.now _ (same_rect _ _ _ _ _ _ _ _ (omega (arith, ints)) (omega (arith, ints)) (omega (arith, ints)) (omega (arith, ints)))
