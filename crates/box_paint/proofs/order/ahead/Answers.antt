use Rattle.std.proofs.Common.{◌∙◌, ap, ◌-ℤ◌, FitsSigned, to_z-of_z, w64, rules}
use Rattle.std.specs.Int.{int_max}
use Rattle.box_paint.proofs.Hiding.{number_fits, difference_fits}
use Rattle.box_paint.proofs.order.ahead.Goals as goal

pub returns : goal.returns
returns c =
    let a = c.args.a.now in
    let b = c.args.b.now in
    let near_a = c.requires.a in
    let near_b = c.requires.b in
    let a_x = number_fits a.hi.x near_a.hi.x in
    let b_x = number_fits b.lo.x near_b.lo.x in
    let a_y = number_fits a.lo.y near_a.lo.y in
    let b_y = number_fits b.hi.y near_b.hi.y in
    let a_z = number_fits a.hi.z near_a.hi.z in
    let b_z = number_fits b.lo.z near_b.lo.z in
    let x = difference_fits b.lo.x a.hi.x near_b.lo.x near_a.hi.x in
    let y = difference_fits a.lo.y b.hi.y near_a.lo.y near_b.hi.y in
    let z = difference_fits b.lo.z a.hi.z near_b.lo.z near_a.hi.z in
    let first : FitsSigned w64 c.max.result = search rules in
    let second : FitsSigned w64 c.max-2.result = search rules in
    let two = simp (to_z-of_z a_x, to_z-of_z b_x, to_z-of_z a_y, to_z-of_z b_y, to_z-of_z x, to_z-of_z y) at c.max.ensures.value in
    let three = simp (to_z-of_z first, to_z-of_z a_z, to_z-of_z b_z, to_z-of_z z) at c.max-2.ensures.value in
    to_z-of_z second ∙ three ∙ ap (λ m. int_max m (b.lo.z -ℤ a.hi.z)) two
