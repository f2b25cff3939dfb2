-- How far from 0 the numbers are on the way to a blank.
use Rattle.std.specs.Prelude.{ℕ, ℤ, pos, neg_ℤ, ◌≤ℤ◌}
use Rattle.unfolder.specs.declared.blank.FlatRect.{FlatRect}
use Rattle.unfolder.specs.declared.blank.BendLine.{BendLine}

-- at most the bound away from 0
pub record IsWithin (bound : ℕ) (n : ℤ) : Type 0 where
  pub low : neg_ℤ (pos bound) ≤ℤ n
  pub high : n ≤ℤ pos bound

pub record IsRectWithin (bound : ℕ) (r : FlatRect) : Type 0 where
  pub x0 : IsWithin bound r.x0
  pub x1 : IsWithin bound r.x1
  pub y0 : IsWithin bound r.y0
  pub y1 : IsWithin bound r.y1

pub record IsLineWithin (bound : ℕ) (line : BendLine) : Type 0 where
  pub from_x : IsWithin bound line.from.0
  pub from_y : IsWithin bound line.from.1
  pub to_x : IsWithin bound line.to.0
  pub to_y : IsWithin bound line.to.1
