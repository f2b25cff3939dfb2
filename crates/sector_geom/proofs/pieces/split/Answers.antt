use Rattle.std.proofs.Common.{to_z-of_z, FitsSigned, rules, sym, subst, w64, List, Option}
use Rattle.brake_base.specs.declared.plane.Rect.{Rect}
use Rattle.sector_geom.specs.Pieces.{HoldTogether}
use Rattle.sector_geom.proofs.PieceLaws.{hold_together, four_items}
use Rattle.sector_geom.proofs.pieces.split.Goals as goal

pub returns-clause-value : goal.returns-clause-value
returns-clause-value c =
    let r = c.args.r in
    let y0 : FitsSigned w64 r.y0 = search rules in
    let y1 : FitsSigned w64 r.y1 = search rules in
    let z0 : FitsSigned w64 r.z0 = search rules in
    let z1 : FitsSigned w64 r.z1 = search rules in
    let right : FitsSigned w64 c.max-right.result = search rules in
    let left : FitsSigned w64 c.min-left.result = search rules in
    let above : FitsSigned w64 c.max-above.result = search rules in
    let below : FitsSigned w64 c.min-below.result = search rules in
    let er = simp (to_z-of_z y0) at c.max-right.ensures.value in
    let el = simp (to_z-of_z y1) at c.min-left.ensures.value in
    let ea = simp (to_z-of_z z0) at c.max-above.ensures.value in
    let eb = simp (to_z-of_z z1) at c.min-below.ensures.value in
    four_items _ _ _ _ _ _ _ _
    (simp (er, ea) at (simp (to_z-of_z right, to_z-of_z above, to_z-of_z y1, to_z-of_z z1) at c.some_with_interior.ensures.value))
    (simp (el, ea) at (simp (to_z-of_z left, to_z-of_z above, to_z-of_z y0, to_z-of_z z1) at c.some_with_interior-2.ensures.value))
    (simp (el, eb) at (simp (to_z-of_z left, to_z-of_z below, to_z-of_z y0, to_z-of_z z0) at c.some_with_interior-3.ensures.value))
    (simp (er, eb) at (simp (to_z-of_z right, to_z-of_z below, to_z-of_z y1, to_z-of_z z0) at c.some_with_interior-4.ensures.value))

pub returns-clause-holds : goal.returns-clause-holds
returns-clause-holds c = subst (λ (pieces : List (Option Rect)). HoldTogether c.args.r pieces) (sym (returns-clause-value c)) (hold_together c.args.r)
