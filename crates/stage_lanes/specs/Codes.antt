-- Reasons as numbers.
use Rattle.std.specs.Prelude.{◌≡◌, ◌⊎◌, ℕ, zero, suc, ◌+◌, ◌-◌, ◌*◌, ◌<◌, List, slice_index}
use Rattle.brake_base.specs.declared.reason.Reason.{Reason}
use Rattle.brake_base.specs.declared.stroke.Half.{Half}
use Rattle.brake_base.specs.declared.stroke.Half.TheVariants.{Back, Front}
use Rattle.brake_base.specs.Reasons.{reason_place}

-- a number from the place of a reason: its rank, its first argument below 25, its quarter and its
-- last argument below 64
unfoldable pub code_at : List ℕ → ℕ
code_at place =
    (slice_index place 0 - 1) * 6400 + slice_index place 1 * 256 + (slice_index place 2 - 1) * 64
    + slice_index place 3

-- the reason's code
abbrev pub code_of : Reason → ℕ
code_of reason = code_at (reason_place reason)

-- a reason whose box is one of 25 and whose other argument is below 64
pub record IsCoded (reason : Reason) : Type 0 where
  pub body : slice_index (reason_place reason) 1 < 25
  pub index : slice_index (reason_place reason) 3 < 64

-- the number is a reason's code, or the code of none
abbrev pub IsCode : ℕ → Type 0
IsCode code = (code ≡ 65535) ⊎ ((reason : Reason) × IsCoded reason × (code_of reason ≡ code))

-- the half with this number
abbrev pub half_at : ℕ → Half
half_at zero = Back
half_at (suc k) = Front
