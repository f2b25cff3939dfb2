use Rattle.std.proofs.Common.{arith}
use Rattle.std.proofs.lemmas.Int.{ints}
use Rattle.sheet_views.specs.SideArea.{point, swept, Grows}
use Rattle.sheet_views.proofs.LeastRects.{grows_alike, grows_twice}
use Rattle.sheet_views.proofs.side_view.with_box.Goals as goal

pub returns : goal.returns
returns c =
    let b = c.args.pose_box.now in
    let lo = b.body.lo in
    let hi = b.body.hi in
    let low = c.requires.near.lo in
    let high = c.requires.near.hi in
    let area = c.args.area.now in
    let r = c.with_corner-low.result in
    let s = c.with_corner-low-2.result in
    let t = c.with_corner-high.result in
    let u = c.with_corner.result in
    let one : Grows area (swept b.half (point lo.y lo.z)) r = grows_alike (swept b.half) _ _ lo.y lo.z area r c.with_corner-low.ensures (omega (arith, ints, low.y)) (omega (arith, ints, low.z)) in
    let two : Grows r (swept b.half (point hi.y lo.z)) s = grows_alike (swept b.half) _ _ hi.y lo.z r s c.with_corner-low-2.ensures (omega (arith, ints, high.y)) (omega (arith, ints, low.z)) in
    let three : Grows s (swept b.half (point lo.y hi.z)) t = grows_alike (swept b.half) _ _ lo.y hi.z s t c.with_corner-high.ensures (omega (arith, ints, low.y)) (omega (arith, ints, high.z)) in
    let four : Grows t (swept b.half (point hi.y hi.z)) u = grows_alike (swept b.half) _ _ hi.y hi.z t u c.with_corner.ensures (omega (arith, ints, high.y)) (omega (arith, ints, high.z)) in
    grows_twice area r u _ _ one (grows_twice r s u _ _ two (grows_twice s t u _ _ three four))
