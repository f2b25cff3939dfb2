-- The numbers of a cover that is drawn stay small.
use Rattle.std.proofs.Common.{inl, inr, ℕ, ◌+◌, ◌*◌, ◌/◌, ◌^◌, ◌<◌, ◌≤◌, ℤ, pos, ◌*ℤ◌, unsigned_abs, arith}
use Rattle.std.proofs.Math.Nat.{div-mul-le_self, add-mul}
use Rattle.std.proofs.lemmas.Bool.{cases_lt}
use Rattle.std.proofs.lemmas.Nat.{mul-le}
use Rattle.algebra.proofs.Widths.{abs-mul}
use Rattle.sector_geom.specs.declared.sector.Sector.{Sector}
use Rattle.sector_geom.specs.declared.sector.Sweep.{Sweep}
use Rattle.sector_geom.specs.Covers.{IsCoverBy}
use Rattle.sector_geom.proofs.CoverShape.{testable, cover_of_some}
use Rattle.sheet_figures.specs.DrawnCovers.{IsDrawnCover}

pub drawn_cover : (sweep : Sweep) (cover : Sector) → IsCoverBy sweep cover → IsDrawnCover cover
drawn_cover sweep cover by =
    let small = testable cover (cover_of_some sweep cover by) in
    record { near2 = small.near2; far2 = small.far2; lower = small.in_range.lower; upper = small.in_range.upper }

-- a number whose square is at most 2^61 is at most 2^31
pub root_small : (n : ℕ) → n * n ≤ 2 ^ 61 → n ≤ 2 ^ 31
root_small n square = elim (cases_lt (2 ^ 31) n) [
  | inl high ↦ (let both = mul-le (2 ^ 31 + 1) (2 ^ 31 + 1) n n (omega (arith, high)) (omega (arith, high)) in absurd (omega (arith, square, both)))
  | inr low ↦ omega (arith, low)
]

-- the least number whose square is at least a number
pub least_above : (low square n : ℕ) → low * low < square → square ≤ n * n → low + 1 ≤ n
least_above low square n below is = elim (cases_lt low n) [
  | inl less ↦ omega (arith, less)
  | inr most ↦ (let squares = mul-le n n low low most most in absurd (omega (arith, squares, below, is)))
]

pub least_same : (low square n : ℕ) → low * low ≤ square → square ≤ n * n → low ≤ n
least_same low square n under is = elim (cases_lt n low) [
  | inl less ↦ (
      let more : n + 1 ≤ low = omega (arith, less) in
      let squares = mul-le (n + 1) (n + 1) low low more more in
      let parts = add-mul n 1 (n + 1) in
      let part = mul-le n n n (n + 1) (omega arith) (omega arith) in
      absurd (omega (arith, squares, parts, part, under, is))
      )
  | inr most ↦ omega (arith, most)
]

-- a distance, divided by a reach and multiplied by it, is hardly greater
pub times_small : (far reach : ℕ) → far ≤ 2 ^ 34 → reach ≤ 2 ^ 31 → (far / reach + 1) * reach ≤ 2 ^ 40
times_small far reach low high =
    let back = div-mul-le_self far reach in
    let more = add-mul (far / reach) 1 reach in
    omega (arith, back, more, low, high)

-- so few times, and so small a product
pub times_few : (times reach : ℕ) → 0 < reach → times * reach ≤ 2 ^ 40 → times ≤ 2 ^ 40
times_few times reach some most =
    let less = mul-le times 1 times reach (omega arith) (omega (arith, some)) in
    omega (arith, less, most)

pub product_small : (times : ℕ) (at : ℤ) (reach : ℕ) → unsigned_abs at ≤ reach → times * reach ≤ 2 ^ 40 → unsigned_abs (pos times *ℤ at) ≤ 2 ^ 40
product_small times at reach within most =
    let size = abs-mul (pos times) at times reach (omega arith) within in
    omega (arith, size, most)
