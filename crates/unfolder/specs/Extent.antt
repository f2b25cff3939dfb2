-- The least rectangle that holds all faces of a blank, and how large its coordinates can be.
use Rattle.std.specs.Prelude.{◌≡◌, ℤ, pos, negsuc, ◌≤ℤ◌, List, [], ◌∷◌, map, fold, All, Any}
use Rattle.std.specs.Int.{int_min, int_max}
use Rattle.unfolder.specs.declared.blank.FlatRect.{FlatRect}
use Rattle.unfolder.specs.declared.blank.FlatFace.{FlatFace}
use Rattle.unfolder.specs.declared.blank.BendLine.{BendLine}
use Rattle.unfolder.specs.Blank.{BlankData}

-- the least and the greatest of some numbers
abbrev pub least : List ℤ → ℤ
least [] = pos 0
least (n ∷ ns) = fold int_min n ns

abbrev pub greatest : List ℤ → ℤ
greatest [] = pos 0
greatest (n ∷ ns) = fold int_max n ns

-- the rectangle from the least to the greatest side of the faces, in x and in y
abbrev pub extent_of : List FlatFace → FlatRect
extent_of faces = record {
  x0 = least (map (λ face. face.rect.x0) faces);
  x1 = greatest (map (λ face. face.rect.x1) faces);
  y0 = least (map (λ face. face.rect.y0) faces);
  y1 = greatest (map (λ face. face.rect.y1) faces);
}

-- all of the inner rectangle lies in the outer one
pub record IsWithin (outer inner : FlatRect) : Type 0 where
  pub x0 : outer.x0 ≤ℤ inner.x0
  pub x1 : inner.x1 ≤ℤ outer.x1
  pub y0 : outer.y0 ≤ℤ inner.y0
  pub y1 : inner.y1 ≤ℤ outer.y1

-- it holds every face, and each of its sides is that of some face, so that none smaller holds them
pub record IsExtent (faces : List FlatFace) (r : FlatRect) : Type 0 where
  pub holds : All (λ face. IsWithin r face.rect) faces
  pub x0 : Any (λ face. face.rect.x0 ≡ r.x0) faces
  pub x1 : Any (λ face. face.rect.x1 ≡ r.x1) faces
  pub y0 : Any (λ face. face.rect.y0 ≡ r.y0) faces
  pub y1 : Any (λ face. face.rect.y1 ≡ r.y1) faces

-- within 1,000,000,000 micrometres of 0
abbrev pub IsNear : ℤ → Type 0
IsNear n = (negsuc 999999999 ≤ℤ n) × (n ≤ℤ pos 1000000000)

pub record IsNearRect (r : FlatRect) : Type 0 where
  pub x0 : IsNear r.x0
  pub x1 : IsNear r.x1
  pub y0 : IsNear r.y0
  pub y1 : IsNear r.y1

pub record IsNearLine (line : BendLine) : Type 0 where
  pub from_x : IsNear line.from.0
  pub from_y : IsNear line.from.1
  pub to_x : IsNear line.to.0
  pub to_y : IsNear line.to.1

-- all coordinates of the blank lie within 1,000,000,000 micrometres of 0
pub record IsNearBlank (blank : BlankData) : Type 0 where
  pub faces : All (λ face. IsNearRect face.rect) blank.faces
  pub bends : All IsNearLine blank.bends
