-- When a piece is free of a rectangle: its cover is clear of it, or those of its halves are, or of
-- their halves, and so on; and what that is worth.
use Rattle.std.specs.Prelude.{◌⊎◌, ℕ, zero, suc, Bool, ℤ, pos, ◌+ℤ◌, ◌-ℤ◌, int_le, int_lt}
use Rattle.std.specs.Prelude.{if◌then◌else◌, Option, Some, None, IsSomeAnd}
use Rattle.std.specs.Int.{int_max, int_div_euclid}
use Rattle.brake_base.specs.declared.plane.Rect.{Rect}
use Rattle.brake_base.specs.declared.plane.Rat2.{Rat2}
use Rattle.brake_base.specs.declared.plane.Quarter.{Quarter}
use Rattle.sector_geom.specs.declared.sector.Sweep.{Sweep}
use Rattle.sector_geom.specs.declared.halving.Halves.{Halves}
use Rattle.sector_geom.specs.Plane.{Holds, IsInside}
use Rattle.sector_geom.specs.Motion.{Triple, turned}
use Rattle.sector_geom.specs.Covers.{cover_of, IsTurnOf}
use Rattle.sector_geom.specs.Clear.{IsClear}

-- The rectangle's longer side is below 2.
abbrev pub is_short : Rect → Bool
is_short r = int_lt (int_max (r.y1 -ℤ r.y0) (r.z1 -ℤ r.z0)) (pos 2)

-- Its side along y is the longer one, or both are equal.
abbrev pub is_wide : Rect → Bool
is_wide r = int_le (r.z1 -ℤ r.z0) (r.y1 -ℤ r.y0)

-- The middle of a range, rounded down.
abbrev pub middle : ℤ → ℤ → ℤ
middle low high = int_div_euclid (low +ℤ high) (pos 2)

-- A rectangle cut in the middle of its range of y.
abbrev pub halves_along_y : Rect → Halves
halves_along_y r = let at = middle r.y0 r.y1 in record {
  lower = record { y0 = r.y0; y1 = at; z0 = r.z0; z1 = r.z1 };
  upper = record { y0 = at; y1 = r.y1; z0 = r.z0; z1 = r.z1 };
}

-- A rectangle cut in the middle of its range of z.
abbrev pub halves_along_z : Rect → Halves
halves_along_z r = let at = middle r.z0 r.z1 in record {
  lower = record { y0 = r.y0; y1 = r.y1; z0 = r.z0; z1 = at };
  upper = record { y0 = r.y0; y1 = r.y1; z0 = at; z1 = r.z1 };
}

-- The halves of a rectangle, cut along its longer side, of two equal ones along y. It has none
-- where that side is below 2.
abbrev pub halves_of : Rect → Option Halves
halves_of r =
    if is_short r then None else if is_wide r then Some (halves_along_y r)
    else Some (halves_along_z r)

-- The piece in the quarter is free of the rectangle at the depth, which says how often in a row it
-- may be halved: its cover is clear of it, or it has halves and both are free of it at the depth
-- less one.
abbrev pub IsFree : ℕ → Quarter → Sweep → Rect → Rect → Type 0
IsFree zero quarter sweep piece o = IsClear (cover_of quarter sweep piece) o
IsFree (suc depth) quarter sweep piece o =
    IsClear (cover_of quarter sweep piece) o
    ⊎ IsSomeAnd (halves_of piece) (λ halves. IsFree depth quarter sweep halves.lower o
    × IsFree depth quarter sweep halves.upper o)

-- The free law: no rational point of the piece is, at any turn of the sweep, inside the rectangle.
abbrev pub StaysApart : Sweep → Rect → Rect → Type 0
StaysApart sweep piece o =
    (p : Rat2) (t : Triple) → Holds piece p → IsTurnOf sweep t → IsInside o (turned t p) → ⊥
