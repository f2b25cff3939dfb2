-- What lies near is small.
use Rattle.std.proofs.Common.{◌≤◌, ◌^◌, ℤ, unsigned_abs, arith}
use Rattle.std.proofs.lemmas.Int.{ints}
use Rattle.algebra.proofs.Widths.{abs_in}
use Rattle.unfolder.specs.Extent.{IsNear}

pub near_small : (n : ℤ) → IsNear n → unsigned_abs n ≤ 2 ^ 48
near_small n near = abs_in n (2 ^ 48) (omega (arith, ints, near.1)) (omega (arith, ints, near.0))
