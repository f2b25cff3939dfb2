-- How what is known at each set of folded bends is kept.
use Rattle.std.specs.Prelude.{◌≡◌, ℕ, ◌<◌, ◌≤◌, Option, Some, None, is_some, List, length}
use Rattle.std.specs.Prelude.{map, filter, slice_index_or}
use Rattle.bb_search.specs.declared.known.KnownActions.{KnownActions}

-- what is known at a set with this place: what is kept there; nothing where it has no place
abbrev pub known_at : KnownActions → List KnownActions → Option ℕ → KnownActions
known_at nothing met None = nothing
known_at nothing met (Some place) = slice_index_or met place nothing

-- what is known at each set, from the sets' places
abbrev pub known_by : KnownActions → List KnownActions → List (Option ℕ) → List KnownActions
known_by nothing met places = map (known_at nothing met) places

-- each set that was met has a place of its own, and there is memory for those of all sets
pub record HavePlaces (places : List (Option ℕ)) (met : List KnownActions) (limit : ℕ)
    : Type 0 where
  pub few : length places ≤ 4096
  pub filled : length met ≡ length (filter is_some places)
  pub memory : limit ≡ length places
  pub within :
      (set place : ℕ) → slice_index_or places set None ≡ Some place → place < length met
  pub apart :
      (set other place : ℕ) → slice_index_or places set None ≡ Some place
      → slice_index_or places other None ≡ Some place → set ≡ other
