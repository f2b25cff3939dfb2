-- Numbers drawn from a number: the linear congruential generator of the C standard's example of
-- `rand`, modulo 2^31.
use Rattle.std.specs.Prelude.{ℕ, zero, suc, ◌+◌, ◌*◌, ◌/◌, ◌%◌}

-- the state after another draw
unfoldable pub next : ℕ → ℕ
next x = (1103515245 * x + 12345) % 2147483648

-- what a draw at this state answers: one of the numbers below m, from the upper half of the next
-- state
unfoldable pub answer : ℕ → ℕ → ℕ
answer x m = (next x / 65536) % m

-- the state after so many further draws
abbrev pub state_after : ℕ → ℕ → ℕ
state_after zero x = x
state_after (suc k) x = next (state_after k x)

-- the state from number n after so many draws
unfoldable pub state : ℕ → ℕ → ℕ
state n k = state_after k (n % 2147483648)

-- draw number k from number n, counted from 0: one of the numbers below m
unfoldable pub drawn : ℕ → ℕ → ℕ → ℕ
drawn n k m = answer (state n k) m
