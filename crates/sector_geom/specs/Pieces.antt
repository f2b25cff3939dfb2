-- A rectangle widened for the sweep, and its pieces in the four quarters of the plane.
use Rattle.std.specs.Prelude.{Option, Some, None, List, [], ◌∷◌, ℤ, pos, ◌+ℤ◌, ◌-ℤ◌, ◌≤ℤ◌, ◌⊎◌}
use Rattle.std.specs.Prelude.{◌&&◌, int_le, int_lt, if◌then◌else◌}
use Rattle.std.specs.Int.{int_max, int_min}
use Rattle.brake_base.specs.declared.plane.Rect.{Rect}
use Rattle.brake_base.specs.declared.plane.Rat2.{Rat2}
use Rattle.brake_base.specs.declared.plane.Quarter.{Quarter}
use Rattle.brake_base.specs.declared.plane.Quarter.TheVariants.{Q1, Q2, Q3, Q4}
use Rattle.sector_geom.specs.Plane.{Holds, HasInterior}

-- The lower end of a range, lowered by so much, but not below 0 where it isn't below 0.
abbrev pub start_widened_by : ℤ → ℤ → ℤ
start_widened_by by low = if int_le (pos 0) low then int_max (low -ℤ by) (pos 0) else low -ℤ by

-- The upper end, raised by so much, but not above 0 where it isn't above 0.
abbrev pub end_widened_by : ℤ → ℤ → ℤ
end_widened_by by high = if int_le high (pos 0) then int_min (high +ℤ by) (pos 0) else high +ℤ by

-- The rectangle grown by so much at both ends of its range of y, but not past y = 0 where it lies
-- on one side of it.
abbrev pub widened_by : ℤ → Rect → Rect
widened_by by r =
    record { y0 = start_widened_by by r.y0; y1 = end_widened_by by r.y1; z0 = r.z0; z1 = r.z1 }

-- The first rectangle holds each point of the second.
abbrev pub HoldsAll : Rect → Rect → Type 0
HoldsAll outer inner = (p : Rat2) → Holds inner p → Holds outer p

-- The rectangle lies in the quarter.
abbrev pub LiesIn : Quarter → Rect → Type 0
LiesIn Q1 r = (pos 0 ≤ℤ r.y0) × (pos 0 ≤ℤ r.z0)
LiesIn Q2 r = (r.y1 ≤ℤ pos 0) × (pos 0 ≤ℤ r.z0)
LiesIn Q3 r = (r.y1 ≤ℤ pos 0) × (r.z1 ≤ℤ pos 0)
LiesIn Q4 r = (pos 0 ≤ℤ r.y0) × (r.z1 ≤ℤ pos 0)

-- What the rectangle and the quarter share.
abbrev pub part_in : Quarter → Rect → Rect
part_in Q1 r = record { y0 = int_max r.y0 (pos 0); y1 = r.y1; z0 = int_max r.z0 (pos 0); z1 = r.z1 }
part_in Q2 r = record { y0 = r.y0; y1 = int_min r.y1 (pos 0); z0 = int_max r.z0 (pos 0); z1 = r.z1 }
part_in Q3 r = record { y0 = r.y0; y1 = int_min r.y1 (pos 0); z0 = r.z0; z1 = int_min r.z1 (pos 0) }
part_in Q4 r = record { y0 = int_max r.y0 (pos 0); y1 = r.y1; z0 = r.z0; z1 = int_min r.z1 (pos 0) }

-- The rectangle, where it has an interior.
abbrev pub with_interior : Rect → Option Rect
with_interior r = if int_lt r.y0 r.y1 && int_lt r.z0 r.z1 then Some r else None

-- The part in the quarter, where it has an interior.
abbrev pub piece_of : Quarter → Rect → Option Rect
piece_of quarter r = with_interior (part_in quarter r)

-- The pieces in Q1 to Q4.
abbrev pub pieces_of : Rect → List (Option Rect)
pieces_of r = piece_of Q1 r ∷ piece_of Q2 r ∷ piece_of Q3 r ∷ piece_of Q4 r ∷ []

-- Some piece holds the point.
abbrev pub SomeHolds : List (Option Rect) → Rat2 → Type 0
SomeHolds [] p = ⊥
SomeHolds (Some piece ∷ rest) p = Holds piece p ⊎ SomeHolds rest p
SomeHolds (None ∷ rest) p = SomeHolds rest p

-- Together the pieces hold each point of the rectangle, if it has an interior.
abbrev pub HoldTogether : Rect → List (Option Rect) → Type 0
HoldTogether r pieces = HasInterior r → (p : Rat2) → Holds r p → SomeHolds pieces p
