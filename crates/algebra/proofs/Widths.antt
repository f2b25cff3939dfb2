-- Products and sums of bounded numbers fit 64 or 128 bits, and are then computed as they are.
use Rattle.std.proofs.Common.{◌≡◌, ◌≤◌, ◌<◌, ◌^◌, ◌+◌, ◌*◌, ℕ, ℤ, pos, negsuc, ◌+ℤ◌, ◌-ℤ◌, ◌*ℤ◌, neg_ℤ, unsigned_abs, FitsSigned, arith, IsTrue, ◌↔◌, ◌≤ℤ◌, sym, w64}
use Rattle.std.proofs.lemmas.Int.{unsigned_abs-mul, fits_signed_from_abs, ints}
use Rattle.std.proofs.lemmas.Nat.{mul-le}
use borrow.Author.Differences.{up, down, at_most_in, le-true, true_is_le, le_out}
use lib.Signed.{le_z}
use mir.Syntax.{w128}
use Rattle.algebra.proofs.Order.{signs}

-- The absolute value as `omega` sees it.
pub abs_parts : (z : ℤ) → up z + down z ≡ unsigned_abs z
abs_parts (pos n) = omega arith
abs_parts (negsuc n) = omega arith

pub abs-neg : (z : ℤ) → unsigned_abs (neg_ℤ z) ≡ unsigned_abs z
abs-neg z = omega (arith, ints, abs_parts z, abs_parts (neg_ℤ z))

-- The absolute value of a product is at most the product of the bounds.
pub abs-mul : (x y : ℤ) (m n : ℕ) → unsigned_abs x ≤ m → unsigned_abs y ≤ n → unsigned_abs (x *ℤ y) ≤ m * n
abs-mul x y m n h l = rw (unsigned_abs-mul x y) (mul-le (unsigned_abs x) (unsigned_abs y) m n h l)

-- A bound of the absolute value is a bound on both sides.
pub abs_in : (z : ℤ) (n : ℕ) → z ≤ℤ pos n → neg_ℤ z ≤ℤ pos n → unsigned_abs z ≤ n
abs_in (pos m) n h l = omega (arith, signs)
abs_in (negsuc m) n h l = omega (arith, signs)

pub abs_out : (z : ℤ) (n : ℕ) → unsigned_abs z ≤ n → (z ≤ℤ pos n) × (neg_ℤ z ≤ℤ pos n)
abs_out (pos m) n h = (omega (arith, signs), omega (arith, signs))
abs_out (negsuc m) n h = (omega (arith, signs), omega (arith, signs))

pub abs-add : (x y : ℤ) (m n : ℕ) → unsigned_abs x ≤ m → unsigned_abs y ≤ n → unsigned_abs (x +ℤ y) ≤ m + n
abs-add x y m n h l =
    let p = abs_out x m h in let q = abs_out y n l in
    abs_in (x +ℤ y) (m + n) (omega (arith, signs, p.0, q.0)) (omega (arith, signs, p.1, q.1))

pub abs-sub : (x y : ℤ) (m n : ℕ) → unsigned_abs x ≤ m → unsigned_abs y ≤ n → unsigned_abs (x -ℤ y) ≤ m + n
abs-sub x y m n h l =
    let p = abs_out x m h in let q = abs_out y n l in
    abs_in (x -ℤ y) (m + n) (omega (arith, signs, p.0, q.1)) (omega (arith, signs, p.1, q.0))

-- What is small enough fits.
pub fits_64 : (x : ℤ) (m : ℕ) → unsigned_abs x ≤ m → m < 2 ^ 63 → FitsSigned w64 x
fits_64 x m h l = fits_signed_from_abs w64 x (omega arith)

pub fits_128 : (x : ℤ) (m : ℕ) → unsigned_abs x ≤ m → m < 2 ^ 127 → FitsSigned w128 x
fits_128 x m h l = fits_signed_from_abs w128 x (omega arith)

-- What a test of order says.
pub le_iff : (a b : ℤ) → IsTrue (le_z a b) ↔ a ≤ℤ b
le_iff a b = (λ e. at_most_in a b (le-true a b e), λ h. sym (true_is_le a b (le_out a b h)))
