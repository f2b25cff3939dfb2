use Rattle.std.proofs.Common.{arith}
use Rattle.std.proofs.lemmas.Int.{ints, clamps}
use Rattle.sector_geom.proofs.PieceLaws.{same_rect}
use Rattle.sheet_views.proofs.LeastRects.{grows_by_point}
use Rattle.sheet_views.proofs.side_view.with_point.Goals as goal

pub returns : goal.returns
returns c =
    grows_by_point c.args.area.now _ c.args.p.now (same_rect _ _ _ _ _ _ _ _ (omega (arith, ints, clamps)) (omega (arith, ints, clamps)) (omega (arith, ints, clamps)) (omega (arith, ints, clamps)))
