-- The order of worths is an order, and a cost paid first keeps it.
use Rattle.std.proofs.Common.{◌≡◌, ℕ, arith, ◌⊎◌, inl, inr, ap, refl}
use Rattle.std.specs.Prelude.{max}
use Rattle.std.proofs.lemmas.Int.{clamps}
use Rattle.std.proofs.lemmas.Bool.{cases_lt}
use Rattle.brake_base.specs.declared.stroke.Worth.{Worth}
use Rattle.brake_base.specs.declared.stroke.Worth.TheVariants.{Cost, Blocked}
use Rattle.brake_base.specs.Worths.{IsAtMost, plus, greater}

pub at_most_self : (a : Worth) → IsAtMost a a
at_most_self (Cost n) = omega arith
at_most_self Blocked = tt

pub at_most_through : (a b c : Worth) → IsAtMost a b → IsAtMost b c → IsAtMost a c
at_most_through a b Blocked h k = tt
at_most_through a Blocked (Cost n) h k = absurd k
at_most_through Blocked (Cost m) (Cost n) h k = absurd h
at_most_through (Cost l) (Cost m) (Cost n) h k = omega arith

-- of two worths one is at most the other
pub at_most_either : (a b : Worth) → IsAtMost a b ⊎ IsAtMost b a
at_most_either a Blocked = inl tt
at_most_either Blocked (Cost n) = inr tt
at_most_either (Cost m) (Cost n) = elim (cases_lt m n) [
  | inl below ↦ inl (omega arith)
  | inr above ↦ inr above
]

-- what is at most a worth stays so after the same cost
pub plus_kept : (cost : ℕ) (a b : Worth) → IsAtMost a b → IsAtMost (plus cost a) (plus cost b)
plus_kept cost a Blocked h = tt
plus_kept cost Blocked (Cost n) h = absurd h
plus_kept cost (Cost m) (Cost n) h = omega arith

-- worths of which each is at most the other are one
pub at_most_both : (a b : Worth) → IsAtMost a b → IsAtMost b a → a ≡ b
at_most_both Blocked Blocked h k = refl
at_most_both Blocked (Cost n) h k = absurd h
at_most_both (Cost m) Blocked h k = absurd k
at_most_both (Cost m) (Cost n) h k = let same : m ≡ n = omega arith in ap Cost same

-- the greater of two worths is one of them, and neither is above it
pub greater_either : (a b : Worth) → (greater a b ≡ a) ⊎ (greater a b ≡ b)
greater_either Blocked b = inl refl
greater_either (Cost m) Blocked = inr refl
greater_either (Cost m) (Cost n) = elim (cases_lt m n) [
  | inl below ↦ inr (let same : max m n ≡ n = omega (arith, clamps) in ap Cost same)
  | inr above ↦ inl (let same : max m n ≡ m = omega (arith, clamps) in ap Cost same)
]

pub greater_first : (a b : Worth) → IsAtMost a (greater a b)
greater_first Blocked b = tt
greater_first (Cost m) Blocked = tt
greater_first (Cost m) (Cost n) = omega (arith, clamps)

pub greater_second : (a b : Worth) → IsAtMost b (greater a b)
greater_second Blocked b = tt
greater_second (Cost m) Blocked = tt
greater_second (Cost m) (Cost n) = omega (arith, clamps)
