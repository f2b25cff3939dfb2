-- Tests that are put together, and comparisons, as facts.
use Rattle.std.proofs.Common.{◌≡◌, ◌⊎◌, inl, inr, ◌↔◌, Bool, true, false, IsTrue, sym, ◌∙◌, ℤ, pos, ◌-ℤ◌, ◌≤ℤ◌, arith}
use Rattle.std.proofs.lemmas.Bool.{false≢true}
use Rattle.std.proofs.lemmas.Int.{ints, clamps}
use Rattle.std.specs.Int.{int_max, int_min}
use lib.Signed.{le_z, lt_z}
use Rattle.algebra.proofs.Order.{signs}
use Rattle.algebra.proofs.Widths.{le_iff}

-- The first is true, so the second decides whether both are.
pub and_then : {A B : Type 0} (x y : Bool) → x ≡ true → (IsTrue x ↔ A) → (IsTrue y ↔ B) → IsTrue y ↔ (A × B)
and_then x y e f g = (λ t. (f.0 e, g.0 t), λ p. g.1 p.1)

pub and_else : {A B : Type 0} (x : Bool) → x ≡ false → (IsTrue x ↔ A) → IsTrue x ↔ (A × B)
and_else x e f = (λ t. absurd (false≢true (sym e ∙ t)), λ p. f.1 p.0)

-- The first is true, so one of them is.
pub or_then : {A B : Type 0} (x : Bool) → x ≡ true → (IsTrue x ↔ A) → IsTrue x ↔ (A ⊎ B)
or_then x e f = (λ t. inl (f.0 t), λ p. e)

pub or_else : {A B : Type 0} (x y : Bool) → x ≡ false → (IsTrue x ↔ A) → (IsTrue y ↔ B) → IsTrue y ↔ (A ⊎ B)
or_else {A} {B} x y e f g = (λ t. inr (g.0 t), back)
  where
    back : A ⊎ B → IsTrue y
    back (inl a) = absurd (false≢true (sym e ∙ f.1 a))
    back (inr b) = g.1 b

pub not_above : (a : ℤ) → lt_z (pos 0) a ≡ false → a ≤ℤ pos 0
not_above a h = grind (arith, ints)

pub not_below : (a : ℤ) → lt_z a (pos 0) ≡ false → pos 0 ≤ℤ a
not_below a h = grind (arith, ints)

-- A comparison as the sign of a difference.
pub at_most : (a b : ℤ) → IsTrue (le_z a b) ↔ (a -ℤ b) ≤ℤ pos 0
at_most a b = (λ t. omega (arith, signs, (le_iff a b).0 t), λ h. (le_iff a b).1 (omega (arith, signs, h)))

pub at_least : (a b : ℤ) → IsTrue (le_z b a) ↔ pos 0 ≤ℤ (a -ℤ b)
at_least a b = (λ t. omega (arith, signs, (le_iff b a).0 t), λ h. (le_iff b a).1 (omega (arith, signs, h)))

-- The greater of two numbers is at most the smaller of two others exactly where each of the first is at most each of the others.
pub all_at_most : (m n a b c d : ℤ) → m ≡ int_max a b → n ≡ int_min c d → IsTrue (le_z m n) ↔ ((a -ℤ c) ≤ℤ pos 0 × (b -ℤ c) ≤ℤ pos 0 × (a -ℤ d) ≤ℤ pos 0 × (b -ℤ d) ≤ℤ pos 0)
all_at_most m n a b c d em en = (
  λ t. let h = (le_iff m n).0 t in (omega (arith, ints, clamps, em, en, h), omega (arith, ints, clamps, em, en, h), omega (arith, ints, clamps, em, en, h), omega (arith, ints, clamps, em, en, h)),
  λ e. (le_iff m n).1 (omega (arith, ints, clamps, em, en, e.0, e.1, e.2, e.3)),
)

pub all_at_least : (m n a b c d : ℤ) → m ≡ int_min a b → n ≡ int_max c d → IsTrue (le_z n m) ↔ (pos 0 ≤ℤ (a -ℤ c) × pos 0 ≤ℤ (b -ℤ c) × pos 0 ≤ℤ (a -ℤ d) × pos 0 ≤ℤ (b -ℤ d))
all_at_least m n a b c d em en = (
  λ t. let h = (le_iff n m).0 t in (omega (arith, ints, clamps, em, en, h), omega (arith, ints, clamps, em, en, h), omega (arith, ints, clamps, em, en, h), omega (arith, ints, clamps, em, en, h)),
  λ e. (le_iff n m).1 (omega (arith, ints, clamps, em, en, e.0, e.1, e.2, e.3)),
)
