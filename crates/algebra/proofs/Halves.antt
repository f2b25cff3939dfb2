-- Half of a whole number, rounded down.
use Rattle.std.proofs.Common.{ℤ, pos, negsuc, ◌+ℤ◌, ◌≤ℤ◌, arith}
use Rattle.std.specs.Int.{int_div_euclid}
use Rattle.std.proofs.lemmas.Int.{ints}

-- the half, doubled, is the number or one less
pub floor_half : (n : ℤ) → ((int_div_euclid n (pos 2) +ℤ int_div_euclid n (pos 2)) ≤ℤ n) × (n ≤ℤ ((int_div_euclid n (pos 2) +ℤ int_div_euclid n (pos 2)) +ℤ pos 1))
floor_half (pos n) = (omega (arith, ints), omega (arith, ints))
floor_half (negsuc n) = (omega (arith, ints), omega (arith, ints))
