-- A blank that is moved so that its extent begins at (0, 0). Lengths are in micrometres.
use Rattle.std.specs.Prelude.{◌≡◌, ◌-ℤ◌, map}
use Rattle.unfolder.specs.declared.blank.FlatRect.{FlatRect}
use Rattle.unfolder.specs.declared.blank.FlatFace.{FlatFace}
use Rattle.unfolder.specs.declared.blank.BendLine.{BendLine}
use Rattle.unfolder.specs.Blank.{BlankData}
use Rattle.unfolder.specs.Extent.{extent_of}
use Rattle.sheet_figures.specs.declared.blank.Flat.{Flat}

abbrev pub moved_face : (extent : FlatRect) → FlatFace → FlatFace
moved_face extent face = record {
  rect = record {
    x0 = face.rect.x0 -ℤ extent.x0;
    x1 = face.rect.x1 -ℤ extent.x0;
    y0 = face.rect.y0 -ℤ extent.y0;
    y1 = face.rect.y1 -ℤ extent.y0;
  };
  turn = face.turn;
}

abbrev pub moved_line : (extent : FlatRect) → BendLine → BendLine
moved_line extent line = record {
  bend = line.bend;
  from = (line.from.0 -ℤ extent.x0, line.from.1 -ℤ extent.y0);
  to = (line.to.0 -ℤ extent.x0, line.to.1 -ℤ extent.y0);
  dir = line.dir;
}

-- its faces and its lines are those of the blank, moved, and its sizes those of the extent
pub record IsMovedBlank (blank : BlankData) (flat : Flat) : Type 0 where
  pub faces : flat.blank.faces.items ≡ map (moved_face (extent_of blank.faces)) blank.faces
  pub lines : flat.blank.bends.items ≡ map (moved_line (extent_of blank.faces)) blank.bends
  pub width : flat.width ≡ (extent_of blank.faces).x1 -ℤ (extent_of blank.faces).x0
  pub height : flat.height ≡ (extent_of blank.faces).y1 -ℤ (extent_of blank.faces).y0
