-- The extent of a blank has no larger coordinates than its faces; a blank that is near has none too large for its sheet.
use Rattle.std.proofs.Common.{◌≡◌, ℤ, ◌≤◌, List, length, get_or, subst, arith}
use Rattle.std.specs.Prelude.{All, Any, unsigned_abs}
use Rattle.std.proofs.lemmas.Int.{ints}
use Rattle.unfolder.specs.declared.blank.FlatRect.{FlatRect}
use Rattle.unfolder.specs.declared.blank.FlatFace.{FlatFace}
use Rattle.unfolder.specs.declared.blank.BendLine.{BendLine}
use Rattle.unfolder.specs.Blank.{BlankData}
use Rattle.unfolder.specs.Extent.{IsExtent, IsNear, IsNearRect, IsNearLine, IsNearBlank}
use Rattle.setup_sheet.specs.Coordinates.{IsBounded, IsBoundedRect, IsBoundedLine, IsBoundedBlank}

bounded_of_any : (g : FlatRect → ℤ) (faces : List FlatFace) (r : ℤ) → Any (λ (other : FlatFace). g other.rect ≡ r) faces → All (λ face. IsBoundedRect face.rect) faces → ((s : FlatRect) → IsBoundedRect s → IsBounded (g s)) → IsBounded r
bounded_of_any g faces r (k, x, inside, at, e) all side = subst IsBounded e (side x.rect (subst (λ (face : FlatFace). IsBoundedRect face.rect) at (all k x inside)))

-- the extent's coordinates are those of faces
pub extent_is_bounded : (faces : List FlatFace) (r : FlatRect) → IsExtent faces r → All (λ face. IsBoundedRect face.rect) faces → IsBoundedRect r
extent_is_bounded faces r extent all = record {
  x0 = bounded_of_any (λ s. s.x0) faces r.x0 extent.x0 all (λ s bounded. bounded.x0);
  x1 = bounded_of_any (λ s. s.x1) faces r.x1 extent.x1 all (λ s bounded. bounded.x1);
  y0 = bounded_of_any (λ s. s.y0) faces r.y0 extent.y0 all (λ s bounded. bounded.y0);
  y1 = bounded_of_any (λ s. s.y1) faces r.y1 extent.y1 all (λ s bounded. bounded.y1);
}

near_is_bounded : (n : ℤ) → IsNear n → IsBounded n
near_is_bounded n near = omega (arith, ints, near.0, near.1)

rect_is_bounded : (r : FlatRect) → IsNearRect r → IsBoundedRect r
rect_is_bounded r near = record {
  x0 = near_is_bounded r.x0 near.x0;
  x1 = near_is_bounded r.x1 near.x1;
  y0 = near_is_bounded r.y0 near.y0;
  y1 = near_is_bounded r.y1 near.y1;
}

line_is_bounded : (line : BendLine) → IsNearLine line → IsBoundedLine line
line_is_bounded line near = record {
  from_x = near_is_bounded line.from.0 near.from_x;
  from_y = near_is_bounded line.from.1 near.from_y;
  to_x = near_is_bounded line.to.0 near.to_x;
  to_y = near_is_bounded line.to.1 near.to_y;
}

-- a blank that a part unfolds to has no coordinate too large for its sheet
pub blank_is_bounded : (blank : BlankData) → IsNearBlank blank → IsBoundedBlank blank
blank_is_bounded blank near = record {
  faces = λ i d inside. rect_is_bounded (get_or blank.faces i d).rect (near.faces i d inside);
  bends = λ i d inside. line_is_bounded (get_or blank.bends i d) (near.bends i d inside);
}
