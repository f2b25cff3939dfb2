use Rattle.std.proofs.Common.{[], ◌∷◌, subst}
use Rattle.sheet_views.specs.declared.side_view.Point.{Point}
use Rattle.sheet_views.specs.SideArea.{Grows}
use Rattle.sheet_views.proofs.LeastRects.{grows_twice}
use Rattle.sheet_views.proofs.side_view.with_corner.Goals as goal

pub returns : goal.returns
returns c =
    let area = c.args.area.now in
    let p = c.args.corner.now in
    let last = subst (λ (q : Point). Grows c.with_point.result (q ∷ []) c.with_point-2.result) c.turned.ensures c.with_point-2.ensures in
    grows_twice area c.with_point.result c.with_point-2.result (p ∷ []) _ c.with_point.ensures last
