-- Where the bend lines of a blank lie on its faces.
use Rattle.std.specs.Prelude.{◌≡◌, ℕ, ◌<◌, ℤ, ◌≤ℤ◌, slice_index_or, length}
use Rattle.part_file.specs.Part.{PartData}
use Rattle.unfolder.specs.declared.blank.FlatRect.{FlatRect}
use Rattle.unfolder.specs.declared.blank.BendLine.{BendLine}
use Rattle.unfolder.specs.Cores.{joint_of}
use Rattle.unfolder.specs.Blank.{BlankData, no_flat_face}
use Rattle.unfolder.specs.Fold.{printed_line}

-- both numbers are from the first end to the second
pub record AreBetween (low high a b : ℤ) : Type 0 where
  pub a_low : low ≤ℤ a
  pub a_high : a ≤ℤ high
  pub b_low : low ≤ℤ b
  pub b_high : b ≤ℤ high

-- the line lies on one of the four edges of the rectangle
pub data IsOnEdge (r : FlatRect) (line : BendLine) : Type 0 where
  left : line.from.0 ≡ r.x0 → line.to.0 ≡ r.x0 → AreBetween r.y0 r.y1 line.from.1 line.to.1
      → IsOnEdge r line
  right : line.from.0 ≡ r.x1 → line.to.0 ≡ r.x1 → AreBetween r.y0 r.y1 line.from.1 line.to.1
      → IsOnEdge r line
  lower : line.from.1 ≡ r.y0 → line.to.1 ≡ r.y0 → AreBetween r.x0 r.x1 line.from.0 line.to.0
      → IsOnEdge r line
  upper : line.from.1 ≡ r.y1 → line.to.1 ≡ r.y1 → AreBetween r.x0 r.x1 line.from.0 line.to.0
      → IsOnEdge r line

-- the printed rectangle of face f
abbrev pub printed_rect : BlankData → ℕ → FlatRect
printed_rect blank f = (slice_index_or blank.faces f no_flat_face).rect

-- at each bend line two cores abut: the printed line lies on an edge of the child and on one of the
-- parent
pub record AbutsAtLines (part : PartData) (blank : BlankData) : Type 0 where
  pub child : (b : ℕ) → 0 < b → b < length part.faces
      → IsOnEdge (printed_rect blank b) (printed_line blank b)
  pub parent : (b : ℕ) → 0 < b → b < length part.faces
      → IsOnEdge (printed_rect blank (joint_of part.faces b).on) (printed_line blank b)
