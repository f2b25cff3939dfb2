use Rattle.std.proofs.Common.{FitsSigned, to_z-of_z, w64, rules}
use Rattle.box_paint.proofs.projection.faces_of.Goals as goal

pub returns : goal.returns
returns c =
    let lo = c.args.body.now.lo in
    let hi = c.args.body.now.hi in
    let lo_x : FitsSigned w64 lo.x = search rules in
    let lo_y : FitsSigned w64 lo.y = search rules in
    let lo_z : FitsSigned w64 lo.z = search rules in
    let hi_x : FitsSigned w64 hi.x = search rules in
    let hi_y : FitsSigned w64 hi.y = search rules in
    let hi_z : FitsSigned w64 hi.z = search rules in
    simp (to_z-of_z lo_x, to_z-of_z lo_y, to_z-of_z lo_z, to_z-of_z hi_x, to_z-of_z hi_y, to_z-of_z hi_z)
