-- A number that isn't negative is that of its size.
use Rattle.std.proofs.Common.{◌≡◌, ℤ, pos, negsuc, unsigned_abs, IsTrue, refl}
use Rattle.std.specs.Prelude.{int_le}

pub size_is : (n : ℤ) → IsTrue (int_le (pos 0) n) → n ≡ pos (unsigned_abs n)
size_is (pos n) low = refl
size_is (negsuc n) low = absurd cc
