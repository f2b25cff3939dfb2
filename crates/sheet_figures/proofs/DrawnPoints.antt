-- Drawn points are near.
use Rattle.std.proofs.Common.{◌≤◌, ◌^◌, pos, ◌+ℤ◌, ◌*ℤ◌, unsigned_abs, arith}
use Rattle.algebra.proofs.Widths.{abs-mul, abs-add}
use Rattle.brake_base.specs.declared.space.V3.{V3}
use Rattle.brake_base.specs.Vectors.{IsWithin}
use Rattle.box_paint.specs.Projection.{drawn, product, rightwards, upwards}

pub right_small : (p : V3) → IsWithin (2 ^ 40) p → unsigned_abs (drawn p).0 ≤ 2 ^ 48
right_small p fit =
    let x = abs-mul rightwards.x p.x 20 (2 ^ 40) (omega arith) fit.x in
    let y = abs-mul rightwards.y p.y 15 (2 ^ 40) (omega arith) fit.y in
    let z = abs-mul rightwards.z p.z 0 (2 ^ 40) (omega arith) fit.z in
    let sum = abs-add (rightwards.x *ℤ p.x +ℤ rightwards.y *ℤ p.y) (rightwards.z *ℤ p.z) _ _ (abs-add (rightwards.x *ℤ p.x) (rightwards.y *ℤ p.y) _ _ x y) z in
    let whole = abs-mul (pos 4) (product rightwards p) 4 _ (omega arith) sum in
    omega (arith, whole)

pub up_small : (p : V3) → IsWithin (2 ^ 40) p → unsigned_abs (drawn p).1 ≤ 2 ^ 48
up_small p fit =
    let x = abs-mul upwards.x p.x 9 (2 ^ 40) (omega arith) fit.x in
    let y = abs-mul upwards.y p.y 12 (2 ^ 40) (omega arith) fit.y in
    let z = abs-mul upwards.z p.z 20 (2 ^ 40) (omega arith) fit.z in
    let sum = abs-add (upwards.x *ℤ p.x +ℤ upwards.y *ℤ p.y) (upwards.z *ℤ p.z) _ _ (abs-add (upwards.x *ℤ p.x) (upwards.y *ℤ p.y) _ _ x y) z in
    let whole = abs-mul (pos 4) (product upwards p) 4 _ (omega arith) sum in
    omega (arith, whole)
