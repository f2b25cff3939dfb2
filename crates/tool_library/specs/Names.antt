-- Names that are told apart.
use Rattle.std.specs.Prelude.{◌≢◌, ℕ, List, [], slice_index_or, take, Bool, bytes_eq, AllPairs}
use Rattle.std.specs.List.{list_any}

-- an earlier name of the list is the same as the one at the index
abbrev pub is_repeat : List (List ℕ) → ℕ → Bool
is_repeat names i =
    list_any (λ earlier. bytes_eq earlier (slice_index_or names i [])) (take i names)

-- no two names are the same
abbrev pub AreDistinct : List (List ℕ) → Type 0
AreDistinct names = AllPairs (λ name later. name ≢ later) names
