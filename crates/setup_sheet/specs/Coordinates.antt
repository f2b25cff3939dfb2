-- How large the coordinates of a blank may be for its sheet.
use Rattle.std.specs.Prelude.{ℕ, ◌^◌, ◌≤◌, ℤ, All, unsigned_abs}
use Rattle.unfolder.specs.declared.blank.FlatRect.{FlatRect}
use Rattle.unfolder.specs.declared.blank.BendLine.{BendLine}
use Rattle.unfolder.specs.Blank.{BlankData}

-- at most 2^40 micrometres away from 0
abbrev pub IsBounded : ℤ → Type 0
IsBounded n = unsigned_abs n ≤ 2 ^ 40

-- each of its sides is
pub record IsBoundedRect (r : FlatRect) : Type 0 where
  pub x0 : IsBounded r.x0
  pub x1 : IsBounded r.x1
  pub y0 : IsBounded r.y0
  pub y1 : IsBounded r.y1

-- each coordinate of its ends is
pub record IsBoundedLine (line : BendLine) : Type 0 where
  pub from_x : IsBounded line.from.0
  pub from_y : IsBounded line.from.1
  pub to_x : IsBounded line.to.0
  pub to_y : IsBounded line.to.1

-- all coordinates of the blank are
pub record IsBoundedBlank (blank : BlankData) : Type 0 where
  pub faces : All (λ face. IsBoundedRect face.rect) blank.faces
  pub bends : All IsBoundedLine blank.bends
