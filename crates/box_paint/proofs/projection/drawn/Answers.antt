use Rattle.std.proofs.Common.{pos, negsuc, ◌+ℤ◌, ◌*ℤ◌, FitsSigned, to_z-of_z, w64, arith}
use Rattle.std.proofs.lemmas.Int.{ints}
use Rattle.box_paint.proofs.Views.{same_pair, upwards_is}
use Rattle.box_paint.proofs.projection.drawn.Goals as goal

pub overflow_add-result-3 : goal.overflow_add-result-3
overflow_add-result-3 c = omega (arith, ints)

pub returns-clause-value : goal.returns-clause-value
returns-clause-value c =
    let p = c.args.point in
    let x : FitsSigned w64 p.x = omega (arith, ints) in
    let y : FitsSigned w64 p.y = omega (arith, ints) in
    let z : FitsSigned w64 p.z = omega (arith, ints) in
    let first : FitsSigned w64 (negsuc 35 *ℤ p.x) = omega (arith, ints) in
    let second : FitsSigned w64 (pos 48 *ℤ p.y) = omega (arith, ints) in
    let third : FitsSigned w64 (pos 80 *ℤ p.z) = omega (arith, ints) in
    let two : FitsSigned w64 ((negsuc 35 *ℤ p.x) +ℤ (pos 48 *ℤ p.y)) = omega (arith, ints) in
    let three : FitsSigned w64 (((negsuc 35 *ℤ p.x) +ℤ (pos 48 *ℤ p.y)) +ℤ (pos 80 *ℤ p.z)) = omega (arith, ints) in
    same_pair _ _ (omega (arith, ints))
    (simp (to_z-of_z x, to_z-of_z y, to_z-of_z z, to_z-of_z first, to_z-of_z second, to_z-of_z third, to_z-of_z two, to_z-of_z three) (upwards_is p.x p.y p.z))
