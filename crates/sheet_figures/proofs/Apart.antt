-- Coordinates of a blank and their differences fit 64 bits.
use Rattle.std.proofs.Common.{◌+◌, ◌≤◌, ◌^◌, ℤ, ◌-ℤ◌, unsigned_abs, FitsSigned, w64, arith}
use Rattle.std.proofs.lemmas.Int.{ints}
use Rattle.algebra.proofs.Widths.{abs_in, abs-sub, fits_64}
use Rattle.unfolder.specs.Extent.{IsNear}

within : (n : ℤ) → IsNear n → unsigned_abs n ≤ 2 ^ 30
within n near = abs_in n (2 ^ 30) (omega (arith, ints, near.1)) (omega (arith, ints, near.0))

pub near_fits : (n : ℤ) → IsNear n → FitsSigned w64 n
near_fits n near = fits_64 _ (2 ^ 30) (within n near) (omega arith)

pub apart_fits : (a b : ℤ) → IsNear a → IsNear b → FitsSigned w64 (a -ℤ b)
apart_fits a b near_a near_b = fits_64 _ (2 ^ 30 + 2 ^ 30) (abs-sub a b (2 ^ 30) (2 ^ 30) (within a near_a) (within b near_b)) (omega arith)
