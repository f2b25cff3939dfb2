-- The mates among the bends up to one.
use Rattle.std.proofs.Common.{◌≡◌, ℕ, ◌+◌, ◌<◌, ◌≤◌, Bool, true, false, ◌&&◌, ◌||◌, ◌==◌, nat_lt, nat_le, inl, inr, refl, arith}
use Rattle.std.proofs.lemmas.Bool.{cases_order, lt-ltb, le-ltb, le-leb, eq-eqb, ne_eqb}

-- one bend more, which is a mate
pub one_more : (test : ℕ → Bool) (c other : ℕ) → test other ≡ true → ((nat_lt c other && test c) || (c == other)) ≡ (nat_lt c (other + 1) && test c)
one_more test c other h = elim (cases_order c other) [
  | inl same ↦ rw (same, le-ltb other other (omega arith), lt-ltb other (other + 1) (omega arith), eq-eqb other other refl, h) refl
  | inr (inl below) ↦ rw (lt-ltb c other below, lt-ltb c (other + 1) (omega arith), ne_eqb c other (λ e. omega (arith, e, below))) (or_false (test c))
  | inr (inr above) ↦ rw (le-ltb c other (omega arith), le-ltb c (other + 1) (omega arith), ne_eqb c other (λ e. omega (arith, e, above))) refl
]
  where
    or_false : (t : Bool) → (t || false) ≡ t
    or_false true = refl
    or_false false = refl

-- one bend more, which is no mate
pub none_more : (test : ℕ → Bool) (c other : ℕ) → test other ≡ false → (nat_lt c other && test c) ≡ (nat_lt c (other + 1) && test c)
none_more test c other h = elim (cases_order c other) [
  | inl same ↦ rw (same, le-ltb other other (omega arith), lt-ltb other (other + 1) (omega arith), h) refl
  | inr (inl below) ↦ rw (lt-ltb c other below, lt-ltb c (other + 1) (omega arith)) refl
  | inr (inr above) ↦ rw (le-ltb c other (omega arith), le-ltb c (other + 1) (omega arith)) refl
]

-- a bend of the part is a mate where the joints are the same
pub as_joints : (b n : ℕ) (same : Bool) → 1 ≤ b → b < n → ((nat_le 1 b && nat_lt b n) && same) ≡ same
as_joints b n same some inside = rw (le-leb 1 b some, lt-ltb b n inside) refl
