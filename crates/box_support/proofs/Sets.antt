-- What isn't in a set of the first bends: 0, and the bends past the last.
use Rattle.std.proofs.Common.{◌≡◌, ℕ, zero, suc, ◌<◌, ◌^◌, ◌==◌, false, refl, ap, arith}
use Rattle.std.proofs.lemmas.Nat.Bits.{bit_at_above}
use Rattle.brake_base.specs.declared.mask.Mask.{Mask}
use Rattle.brake_base.specs.Masks.{has}

pub none_at_zero : (mask : Mask) → has mask 0 ≡ false
unfolding has
none_at_zero mask = refl

pub none_past : (mask : Mask) (n c : ℕ) → mask.0 < 2 ^ n → n < c → has mask c ≡ false
unfolding has
none_past mask n zero fits past = refl
none_past mask n (suc k) fits past = ap (λ (m : ℕ). m == 1) (bit_at_above mask.0 n k fits (omega arith))
