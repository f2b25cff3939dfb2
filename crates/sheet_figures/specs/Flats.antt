-- How large the coordinates of a drawn blank can be, in micrometres.
use Rattle.std.specs.Prelude.{◌^◌, ◌<◌, ◌≤◌, unsigned_abs, length, All}
use Rattle.unfolder.specs.declared.blank.FlatRect.{FlatRect}
use Rattle.unfolder.specs.declared.blank.BendLine.{BendLine}
use Rattle.sheet_figures.specs.declared.blank.Flat.{Flat}

pub record IsFlatRect (rect : FlatRect) : Type 0 where
  pub x0 : unsigned_abs rect.x0 ≤ 2 ^ 40
  pub x1 : unsigned_abs rect.x1 ≤ 2 ^ 40
  pub y0 : unsigned_abs rect.y0 ≤ 2 ^ 40
  pub y1 : unsigned_abs rect.y1 ≤ 2 ^ 40

pub record IsFlatLine (line : BendLine) : Type 0 where
  pub from_x : unsigned_abs line.from.0 ≤ 2 ^ 40
  pub from_y : unsigned_abs line.from.1 ≤ 2 ^ 40
  pub to_x : unsigned_abs line.to.0 ≤ 2 ^ 40
  pub to_y : unsigned_abs line.to.1 ≤ 2 ^ 40

-- all coordinates of the blank and its sizes lie within 2^40 micrometres of 0, and it has a face
pub record IsNearFlat (flat : Flat) : Type 0 where
  pub some : 0 < length flat.blank.faces.items
  pub faces : All (λ face. IsFlatRect face.rect) flat.blank.faces.items
  pub lines : All IsFlatLine flat.blank.bends.items
  pub width : unsigned_abs flat.width ≤ 2 ^ 40
  pub height : unsigned_abs flat.height ≤ 2 ^ 40
