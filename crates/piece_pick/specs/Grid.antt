-- Lengths off a grid: a want whose length is off it needs a piece whose length is. Lengths and
-- grids are in micrometres.
use Rattle.std.specs.Prelude.{ℕ, ◌<◌, ◌%◌, ◌==◌, ℤ, List, count_by, Bool, not, ◌&&◌, unsigned_abs}
use Rattle.piece_pick.specs.declared.want.Want.{Want}

-- the length is no multiple of the grid's
abbrev pub is_off : ℕ → ℤ → Bool
is_off grid length = not (unsigned_abs length % grid == 0)

-- a want has the tools of another
abbrev pub is_beside : Want → Want → Bool
is_beside want other = (other.punch == want.punch) && (other.die == want.die)

-- a want has the tools of another, and its length is off the grid
abbrev pub is_off_beside : ℕ → Want → Want → Bool
is_off_beside grid want other = is_beside want other && is_off grid other.length

-- on some grid, fewer pieces of a supply are off it than wants of a want's tools
abbrev pub HasFewOff : List Want → Want → List ℤ → Type 0
HasFewOff wants want supply =
    (grid : ℕ) × (count_by (is_off grid) supply < count_by (is_off_beside grid want) wants)
