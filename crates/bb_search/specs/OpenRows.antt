-- The row of a key that is being settled, and the rows that came meanwhile.
use Rattle.std.specs.Prelude.{◌≡◌, ◌⊎◌, ℕ, ◌<◌, not, true, false, Some, None, List, length, filter}
use Rattle.std.specs.Prelude.{slice_get, IsSome}
use Rattle.std.specs.List.{range_with_len}
use Rattle.brake_base.specs.declared.mask.Mask.{Mask}
use Rattle.brake_base.specs.declared.stroke.Key.{Key}
use Rattle.brake_base.specs.declared.stroke.Action.{Action}
use Rattle.stage_lanes.specs.ActionSets.{has, has_place}
use Rattle.job_setup.specs.Setup.{JobData}
use Rattle.set_facts.specs.LaneFacts.{key_at}
use Rattle.handling_cost.specs.StepCost.{IsActionAt, left, key_after}
use Rattle.handling_cost.specs.Bound.{sum_of}
use Rattle.row_pool.specs.Rows.{Pool, PoolRow}
use Rattle.bb_search.specs.declared.known.KnownActions.{KnownActions}
use Rattle.bb_search.specs.Settling.{IsSound, HasSource, OpenAbove}
use Rattle.bb_search.specs.KnownActions.{TableData, IsFloor}

-- an action of the key that is known to be free leads to the other key, and its sum is no more than
-- can come of any action
abbrev pub IsPending : JobData → Key → KnownActions → Key → Type 0
IsPending job key at next =
    (action : Action) × IsActionAt job key action × (has at.known action ≡ true)
    × (has at.refused action ≡ false) × (key_after job key action ≡ next)
    × IsFloor job key at (sum_of job key action)

-- a further row: it has a worth, and a source, which may be the row that is open
abbrev pub IsFurther : JobData → List PoolRow → Key → KnownActions → PoolRow → Type 0
IsFurther job rows key at row =
    IsSome row.worth × (HasSource job rows row.key ⊎ IsPending job key at row.key)

-- the pool while the key is settled: its row is the first after those from before, and has no worth
-- yet
pub record IsSettlingAt (job : JobData) (before now : Pool) (key : Key) (at : KnownActions)
    (row : PoolRow) : Type 0 where
  pub sound : IsSound job now.rows
  pub longer : length before.rows < length now.rows
  pub keeps :
      (i : ℕ) (other : PoolRow) → slice_get before.rows i ≡ Some other
      → slice_get now.rows i ≡ Some other
  pub here : slice_get now.rows (length before.rows) ≡ Some row
  pub its : row.key ≡ key
  pub unsettled : row.worth ≡ None
  pub others :
      (i : ℕ) (other : PoolRow) → slice_get now.rows i ≡ Some other
      → (slice_get before.rows i ≡ Some other) ⊎ (i ≡ length before.rows)
      ⊎ ((length before.rows < i) × IsFurther job now.rows key at other)
  pub limit : now.limit ≡ before.limit
  pub actions : now.actions ≡ before.actions

abbrev pub IsSettling : JobData → Pool → Pool → Key → KnownActions → Type 0
IsSettling job before now key at = (row : PoolRow) × IsSettlingAt job before now key at row

-- the key is settled by what the table knows at its set
abbrev pub IsSettlingBy : JobData → Pool → Pool → Key → TableData → Type 0
IsSettlingBy job before now key table =
    (at : KnownActions) × (slice_get table.known key.mask.0 ≡ Some at)
    × IsSettling job before now key at

-- some row is open for the key, and at the other rows without a worth more bends are left
abbrev pub IsOpenFor : JobData → Pool → Key → TableData → Type 0
IsOpenFor job now key table =
    (before : Pool) × IsSettlingBy job before now key table
    × OpenAbove job before.rows (left job key)

-- of what is known at the set of a key this holds
abbrev pub IsKnownSo : TableData → Mask → (KnownActions → Type 0) → Type 0
IsKnownSo table mask IsSo =
    (at : KnownActions) → slice_get table.known mask.0 ≡ Some at → IsSo at

-- what is known at a set was this before and is this now
abbrev pub HasChanged :
    TableData → TableData → Mask → (KnownActions → KnownActions → Type 0) → Type 0
HasChanged before after mask IsSo =
    (old new : KnownActions) → slice_get before.known mask.0 ≡ Some old
    → slice_get after.known mask.0 ≡ Some new → IsSo old new

-- at all sets at which more bends are left than this, the same is known
abbrev pub IsSameAbove : JobData → TableData → TableData → ℕ → Type 0
IsSameAbove job before after count =
    (mask : Mask) → count < left job (key_at mask 0)
    → slice_get after.known mask.0 ≡ slice_get before.known mask.0

-- of how many of the 192 places nothing is known
unfoldable pub unknown_count : KnownActions → ℕ
unknown_count at =
    length (filter (λ place. not (has_place at.known place)) (range_with_len 0 192))
