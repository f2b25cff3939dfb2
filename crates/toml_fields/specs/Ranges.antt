-- Ranges of whole numbers.
use Rattle.std.specs.Prelude.{ℤ, ◌≤ℤ◌, ◌<ℤ◌, int_le, int_lt, Bool, ◌&&◌}

-- a number within two ends
pub record IsWithin (low high n : ℤ) : Type 0 where
  pub bottom : low ≤ℤ n
  pub top : n ≤ℤ high

-- a range that isn't empty, within two ends
pub record IsRange (low high from to : ℤ) : Type 0 where
  pub order : from <ℤ to
  pub bottom : low ≤ℤ from
  pub top : to ≤ℤ high

-- a number is within two ends, as a test
abbrev pub is_within : ℤ → ℤ → ℤ → Bool
is_within low high n = int_le low n && int_le n high

-- a range isn't empty and is within two ends, as a test
abbrev pub is_range : ℤ → ℤ → ℤ → ℤ → Bool
is_range low high from to = (int_lt from to && int_le low from) && int_le to high
