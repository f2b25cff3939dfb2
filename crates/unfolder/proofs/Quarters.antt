-- Quarter turns about z, by their number.
use Rattle.std.proofs.Common.{◌≡◌, ℕ, zero, suc, ◌+◌, ◌%◌, ◌<◌, ℤ, pos, ◌+ℤ◌, ◌-ℤ◌, refl, ◌∙◌, sym, arith}
use Rattle.std.proofs.lemmas.Int.{ints}
use Rattle.brake_base.specs.Vectors.{vector}
use Rattle.brake_base.specs.Turns.{apply, multiply, quarter_turns, mapped}
use Rattle.brake_base.proofs.Vectors.{same_point}

-- a point of the plane under r quarter turns and a shift
pub mapped_0 : (u v x y : ℤ) → mapped (record { turn = quarter_turns 0; shift = vector u v (pos 0) }) (vector x y (pos 0)) ≡ vector (u +ℤ x) (v +ℤ y) (pos 0)
unfolding mapped apply multiply
mapped_0 u v x y = same_point _ _ (omega (arith, ints)) (omega (arith, ints)) (omega (arith, ints))

pub mapped_1 : (u v x y : ℤ) → mapped (record { turn = quarter_turns 1; shift = vector u v (pos 0) }) (vector x y (pos 0)) ≡ vector (u -ℤ y) (v +ℤ x) (pos 0)
unfolding mapped apply multiply
mapped_1 u v x y = same_point _ _ (omega (arith, ints)) (omega (arith, ints)) (omega (arith, ints))

pub mapped_2 : (u v x y : ℤ) → mapped (record { turn = quarter_turns 2; shift = vector u v (pos 0) }) (vector x y (pos 0)) ≡ vector (u -ℤ x) (v -ℤ y) (pos 0)
unfolding mapped apply multiply
mapped_2 u v x y = same_point _ _ (omega (arith, ints)) (omega (arith, ints)) (omega (arith, ints))

pub mapped_3 : (u v x y : ℤ) → mapped (record { turn = quarter_turns 3; shift = vector u v (pos 0) }) (vector x y (pos 0)) ≡ vector (u +ℤ y) (v -ℤ x) (pos 0)
unfolding mapped apply multiply
mapped_3 u v x y = same_point _ _ (omega (arith, ints)) (omega (arith, ints)) (omega (arith, ints))

-- numbers below 4 are 0 to 3
pub by_four : (P : ℕ → Type 0) → P 0 → P 1 → P 2 → P 3 → (r : ℕ) → r < 4 → P r
by_four P p0 p1 p2 p3 zero h = p0
by_four P p0 p1 p2 p3 (suc zero) h = p1
by_four P p0 p1 p2 p3 (suc (suc zero)) h = p2
by_four P p0 p1 p2 p3 (suc (suc (suc zero))) h = p3
by_four P p0 p1 p2 p3 (suc (suc (suc (suc r)))) h = absurd (omega arith)

-- quarter turns after quarter turns, counted modulo 4
pub multiply-quarter_turns : (a b : ℕ) → a < 4 → b < 4 → multiply (quarter_turns a) (quarter_turns b) ≡ quarter_turns ((a + b) % 4)
unfolding apply multiply
multiply-quarter_turns a b a4 b4 =
    by_four (λ a. (b : ℕ) → b < 4 → multiply (quarter_turns a) (quarter_turns b) ≡ quarter_turns ((a + b) % 4))
    (by_four (λ b. multiply (quarter_turns 0) (quarter_turns b) ≡ quarter_turns ((0 + b) % 4)) refl refl refl refl)
    (by_four (λ b. multiply (quarter_turns 1) (quarter_turns b) ≡ quarter_turns ((1 + b) % 4)) refl refl refl refl)
    (by_four (λ b. multiply (quarter_turns 2) (quarter_turns b) ≡ quarter_turns ((2 + b) % 4)) refl refl refl refl)
    (by_four (λ b. multiply (quarter_turns 3) (quarter_turns b) ≡ quarter_turns ((3 + b) % 4)) refl refl refl refl)
    a a4 b b4

-- the same, from the numbers that the code computes
pub point_0 : (r : ℕ) (u v x y a b : ℤ) → r ≡ 0 → a ≡ u +ℤ x → b ≡ v +ℤ y → vector a b (pos 0) ≡ mapped (record { turn = quarter_turns r; shift = vector u v (pos 0) }) (vector x y (pos 0))
point_0 r u v x y a b turn first second = (λ i. vector (first i) (second i) (pos 0)) ∙ sym (mapped_0 u v x y) ∙ (λ i. mapped (record { turn = quarter_turns (sym turn i); shift = vector u v (pos 0) }) (vector x y (pos 0)))

pub point_1 : (r : ℕ) (u v x y a b : ℤ) → r ≡ 1 → a ≡ u -ℤ y → b ≡ v +ℤ x → vector a b (pos 0) ≡ mapped (record { turn = quarter_turns r; shift = vector u v (pos 0) }) (vector x y (pos 0))
point_1 r u v x y a b turn first second = (λ i. vector (first i) (second i) (pos 0)) ∙ sym (mapped_1 u v x y) ∙ (λ i. mapped (record { turn = quarter_turns (sym turn i); shift = vector u v (pos 0) }) (vector x y (pos 0)))

pub point_2 : (r : ℕ) (u v x y a b : ℤ) → r ≡ 2 → a ≡ u -ℤ x → b ≡ v -ℤ y → vector a b (pos 0) ≡ mapped (record { turn = quarter_turns r; shift = vector u v (pos 0) }) (vector x y (pos 0))
point_2 r u v x y a b turn first second = (λ i. vector (first i) (second i) (pos 0)) ∙ sym (mapped_2 u v x y) ∙ (λ i. mapped (record { turn = quarter_turns (sym turn i); shift = vector u v (pos 0) }) (vector x y (pos 0)))

pub point_3 : (r : ℕ) (u v x y a b : ℤ) → r ≡ 3 → a ≡ u +ℤ y → b ≡ v -ℤ x → vector a b (pos 0) ≡ mapped (record { turn = quarter_turns r; shift = vector u v (pos 0) }) (vector x y (pos 0))
point_3 r u v x y a b turn first second = (λ i. vector (first i) (second i) (pos 0)) ∙ sym (mapped_3 u v x y) ∙ (λ i. mapped (record { turn = quarter_turns (sym turn i); shift = vector u v (pos 0) }) (vector x y (pos 0)))
