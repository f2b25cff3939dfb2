-- Eight stages at once: a lane for each.
use Rattle.std.specs.Prelude.{◌≡◌, ℕ, ◌<◌, ◌≤◌, List, slice_index}

-- each of the eight lanes has the value of its stage
abbrev pub AreLanes : List ℕ → (ℕ → ℕ) → Type 0
AreLanes lanes value = (stage : ℕ) → stage < 8 → slice_index lanes stage ≡ value stage

-- one of the eight lanes has this value, and none has a lesser one
pub record IsLeastLane (lanes : List ℕ) (value : ℕ) : Type 0 where
  pub lane : (stage : ℕ) × (stage < 8) × (slice_index lanes stage ≡ value)
  pub least : (stage : ℕ) → stage < 8 → value ≤ slice_index lanes stage
