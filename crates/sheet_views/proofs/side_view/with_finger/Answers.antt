use Rattle.std.proofs.Common.{[], ◌∷◌, FitsSigned, to_z-of_z, w64, rules}
use Rattle.sheet_views.specs.declared.side_view.Point.{Point}
use Rattle.sheet_views.specs.SideArea.{point, Grows}
use Rattle.sheet_views.proofs.LeastRects.{grows_alike, grows_twice}
use Rattle.sheet_views.proofs.side_view.with_finger.Goals as goal

pub returns : goal.returns
returns c =
    let finger = c.args.finger.now in
    let y : FitsSigned w64 finger.hi.y = search rules in
    let low : FitsSigned w64 finger.lo.z = search rules in
    let high : FitsSigned w64 finger.hi.z = search rules in
    let area = c.args.area.now in
    let r = c.with_point-low.result in
    let s = c.with_point.result in
    let one : Grows area (point finger.hi.y finger.lo.z ∷ []) r = grows_alike (λ (p : Point). p ∷ []) _ _ finger.hi.y finger.lo.z area r c.with_point-low.ensures (to_z-of_z y) (to_z-of_z low) in
    let two : Grows r (point finger.hi.y finger.hi.z ∷ []) s = grows_alike (λ (p : Point). p ∷ []) _ _ finger.hi.y finger.hi.z r s c.with_point.ensures (to_z-of_z y) (to_z-of_z high) in
    grows_twice area r s _ _ one two
