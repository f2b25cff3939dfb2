-- What the code of the nearest stage computes on its way.
use Rattle.std.specs.Prelude.{ℕ, min, List, [], ◌∷◌, Option, Some, None}
use Rattle.handling_cost.specs.Bound.{nearest}

-- the lesser of two distances; the second alone, where there is no first
abbrev pub lesser : Option ℕ → ℕ → ℕ
lesser None second = second
lesser (Some first) second = min first second

-- how far the nearest of some stages is, where there are any
abbrev pub nearest_of_some : ℕ → List ℕ → Option ℕ
nearest_of_some from [] = None
nearest_of_some from (stage ∷ others) = Some (nearest from (stage ∷ others))
