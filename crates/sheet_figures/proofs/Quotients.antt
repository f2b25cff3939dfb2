-- How large a quotient can be.
use Rattle.std.proofs.Common.{ℕ, ◌≤◌, ℤ, pos, negsuc, ◌≤ℤ◌, unsigned_abs, arith}
use Rattle.std.specs.Int.{int_div_euclid}
use Rattle.std.proofs.Math.Nat.{div-le_self}
use Rattle.std.proofs.lemmas.Int.{ints}

-- a number, divided by one above 0, is no farther from 0
pub quotient_near : (n d : ℤ) (bound : ℕ) → pos 1 ≤ℤ d → unsigned_abs n ≤ bound → unsigned_abs (int_div_euclid n d) ≤ bound
quotient_near (pos a) (pos b) bound some near = omega (arith, div-le_self a b, near)
quotient_near (negsuc a) (pos b) bound some near = omega (arith, div-le_self a b, near)
quotient_near (pos a) (negsuc b) bound some near = absurd (omega (arith, ints, some))
quotient_near (negsuc a) (negsuc b) bound some near = absurd (omega (arith, ints, some))
