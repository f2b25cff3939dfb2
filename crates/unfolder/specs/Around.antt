-- What the code of the extent computes on its way.
use Rattle.std.specs.Prelude.{List, map, fold}
use Rattle.std.specs.Int.{int_min, int_max}
use Rattle.unfolder.specs.declared.blank.FlatRect.{FlatRect}
use Rattle.unfolder.specs.declared.blank.FlatFace.{FlatFace}

-- the least rectangle that holds both
abbrev pub rect_of_both : FlatRect → FlatRect → FlatRect
rect_of_both a b =
    record {
      x0 = int_min a.x0 b.x0;
      x1 = int_max a.x1 b.x1;
      y0 = int_min a.y0 b.y0;
      y1 = int_max a.y1 b.y1;
    }

-- the least rectangle that holds the first one and the faces, side by side
abbrev pub rect_around : FlatRect → List FlatFace → FlatRect
rect_around first faces = record {
  x0 = fold int_min first.x0 (map (λ face. face.rect.x0) faces);
  x1 = fold int_max first.x1 (map (λ face. face.rect.x1) faces);
  y0 = fold int_min first.y0 (map (λ face. face.rect.y0) faces);
  y1 = fold int_max first.y1 (map (λ face. face.rect.y1) faces);
}
