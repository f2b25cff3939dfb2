-- What the code of the span computes on its way.
use Rattle.std.specs.Prelude.{ℕ, ℤ, ◌≤ℤ◌, List, [], ◌∷◌, map, fold, Option, Some, None}
use Rattle.std.specs.Int.{int_min, int_max}
use Rattle.unfolder.specs.Near.{IsWithin}
use Rattle.fold_boxes.specs.Shapes.{ShapeData}
use Rattle.fold_boxes.specs.Groups.{line_from, line_to}

-- the least range that holds both
abbrev pub enclosing_range : Option (ℤ × ℤ) → ℤ × ℤ → ℤ × ℤ
enclosing_range None second = second
enclosing_range (Some first) second = (int_min first.0 second.0, int_max first.1 second.1)

-- the range that the lines of these bends cover, where there are any
abbrev pub range_of_lines : ShapeData → List ℕ → Option (ℤ × ℤ)
range_of_lines shape [] = None
range_of_lines shape (b ∷ bs) =
    Some (
      fold int_min (line_from shape b) (map (line_from shape) bs),
      fold int_max (line_to shape b) (map (line_to shape) bs),
    )

-- a range in order, both of whose ends lie within 100,000,000 micrometres of 0
pub record IsNearRange (range : ℤ × ℤ) : Type 0 where
  pub from : IsWithin 100000000 range.0
  pub to : IsWithin 100000000 range.1
  pub in_order : range.0 ≤ℤ range.1
