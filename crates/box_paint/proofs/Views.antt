-- Where points are drawn.
use Rattle.std.proofs.Common.{◌≡◌, ℤ, pos, negsuc, ◌+ℤ◌, ◌*ℤ◌, [], ◌∷◌}
use Rattle.algebra.proofs.Ring.{ring, var, whole, ◌⊕◌, ◌⊗◌}

pub same_pair : (p q : ℤ × ℤ) → p.0 ≡ q.0 → p.1 ≡ q.1 → p ≡ q
same_pair p q x y = λ i. (x i, y i)

pub upwards_is : (x y z : ℤ) → ((negsuc 35 *ℤ x) +ℤ (pos 48 *ℤ y)) +ℤ (pos 80 *ℤ z) ≡ pos 4 *ℤ (((negsuc 8 *ℤ x) +ℤ (pos 12 *ℤ y)) +ℤ (pos 20 *ℤ z))
upwards_is x y z =
    ring (x ∷ y ∷ z ∷ []) ((whole (negsuc 35) ⊗ var 0 ⊕ whole (pos 48) ⊗ var 1) ⊕ whole (pos 80) ⊗ var 2)
    (whole (pos 4) ⊗ ((whole (negsuc 8) ⊗ var 0 ⊕ whole (pos 12) ⊗ var 1) ⊕ whole (pos 20) ⊗ var 2)) tt
