-- Half of what the outside leg lengths lose at a right-angle bend, by DIN 6935. The deduction is 2
-- (r + t) - (pi / 2) (r + k t / 2) for the inner radius r and the thickness t in micrometres and
-- the correction factor k, which is given in thousandths here. Pi is taken as 355 / 113.
use Rattle.std.specs.Prelude.{ℤ, pos, ◌+ℤ◌, ◌-ℤ◌, ◌*ℤ◌, ◌≤ℤ◌, ◌<ℤ◌, int_div}
use Rattle.toml_fields.specs.Ranges.{IsWithin}
use Rattle.part_file.specs.Bounds.{greatest_thickness}
use Rattle.part_file.specs.Part.{IsRadius}
use Rattle.allowance.specs.Bounds.{least_factor, greatest_factor}

-- a correction factor, in thousandths
abbrev pub IsFactor : ℤ → Type 0
IsFactor k = IsWithin least_factor greatest_factor k

-- a thickness, in micrometres, for which the formula is taken
abbrev pub IsBendThickness : ℤ → Type 0
IsBendThickness t = IsWithin (pos 1) greatest_thickness t

-- a bend's inner radius and thickness, in micrometres, and its correction factor
pub record IsBend (r t k : ℤ) : Type 0 where
  pub radius : IsRadius r
  pub thickness : IsBendThickness t
  pub factor : IsFactor k

-- the quarter circle of the neutral line halved, (pi / 4) (r + k t / 2), as a numerator over 904000
abbrev pub half_arc : ℤ → ℤ → ℤ → ℤ
half_arc r t k = pos 355 *ℤ (pos 2000 *ℤ r +ℤ k *ℤ t)

-- the whole number nearest to n / 904000, and of two the greater
abbrev pub rounded : ℤ → ℤ
rounded n = int_div (n +ℤ pos 452000) (pos 904000)

-- half of the deduction in whole micrometres
abbrev pub half_deduction_of : ℤ → ℤ → ℤ → ℤ
half_deduction_of r t k = (r +ℤ t) -ℤ rounded (half_arc r t k)

-- q is within half a micrometre of half of the deduction (both taken 904000 times)
pub record IsNearest (r t k q : ℤ) : Type 0 where
  pub above : ((pos 904000 *ℤ (r +ℤ t) -ℤ half_arc r t k) -ℤ pos 452000) ≤ℤ (pos 904000 *ℤ q)
  pub below : (pos 904000 *ℤ q) <ℤ ((pos 904000 *ℤ (r +ℤ t) -ℤ half_arc r t k) +ℤ pos 452000)
