-- The rows of a pool in the order of their keys.
use Rattle.std.specs.Prelude.{◌≡◌, ◌≢◌, ℕ, ◌<◌, Option, Some, length, slice_get}
use Rattle.brake_base.specs.declared.stroke.Key.{Key}
use Rattle.brake_base.specs.Keys.{KeyIsBefore}
use Rattle.row_pool.specs.Rows.{Pool, keys}

-- a key comes after that of a row; each does where no row is given
abbrev pub IsAfter : Pool → Option ℕ → Key → Type 0
IsAfter pool row key =
    (r : ℕ) (k : Key) → row ≡ Some r → slice_get (keys pool) r ≡ Some k → KeyIsBefore k key

-- of the keys after that of a row the least is that of the next one
pub record IsNextRow (pool : Pool) (row : Option ℕ) (next : ℕ) : Type 0 where
  pub within : next < length pool.rows
  pub after : (key : Key) → slice_get (keys pool) next ≡ Some key → IsAfter pool row key
  pub least : (key other : Key) (r : ℕ) → slice_get (keys pool) next ≡ Some key
      → slice_get (keys pool) r ≡ Some other → r ≢ next → IsAfter pool row other
      → KeyIsBefore key other

-- no key comes after that of a row
abbrev pub HasNoNext : Pool → Option ℕ → Type 0
HasNoNext pool row =
    (r : ℕ) (key : Key) → slice_get (keys pool) r ≡ Some key → IsAfter pool row key → ⊥
