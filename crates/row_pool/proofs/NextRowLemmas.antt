-- The next row of a pool in the order of its rows' keys.
use Rattle.std.proofs.Common.{◌≡◌, ℕ, ◌+◌, ◌%◌, ◌<◌, ◌≤◌, List, length, map, get_or, Option, Some, None, arith, inl, inr, refl, sym, ◌∙◌, ap, subst}
use Rattle.std.proofs.lemmas.List.{length-map}
use Rattle.std.proofs.lemmas.Option.{same_Some, none-some}
use Rattle.std.specs.Prelude.{slice_get, All, IfSome, IfNone}
use Rattle.brake_base.specs.declared.stroke.Key.{Key}
use Rattle.brake_base.specs.declared.reason.Reason.{Reason}
use Rattle.brake_base.specs.Keys.{KeyIsBefore}
use Rattle.stage_lanes.specs.declared.actions.ActionSet.{ActionSet}
use Rattle.row_pool.specs.declared.kept_reason.KeptReason.{KeptReason}
use Rattle.row_pool.specs.declared.row.Row.{Row}
use Rattle.row_pool.specs.Rows.{Pool, PoolRow, keys}
use Rattle.row_pool.specs.Store.{rows_of, IsStore}
use Rattle.row_pool.specs.Index.{Blocks, HasPlace, key_place, IsIndexed, HasNoRow, IsFirstIn, HaveNoRows, IsFirstOf}
use Rattle.row_pool.specs.Order.{IsAfter, IsNextRow, HasNoNext}
use Rattle.row_pool.proofs.RowsOfLemmas.{key_at, keys-rows_of}
use Rattle.row_pool.proofs.OrderLemmas.{ArePlaced, Reaches, reach_after, after_reach, key_has, below, none_in, none_of, reaches_first, least_in, next_within, reaches_of, least_of}

-- what follows for each row follows for one that was found
pub found_so : {P Q : ℕ → Type 0} (found : Option ℕ) → ((row : ℕ) → P row → Q row) → IfSome found P → IfSome found Q
found_so None so is = tt
found_so (Some row) so is = so row is

pub none_so : {P Q : Type 0} (found : Option ℕ) → (P → Q) → IfNone found P → IfNone found Q
none_so None so is = so is
none_so (Some row) so is = tt

-- ---- what a pool shows of its store
module _ {rows : List Row} {kept : List KeptReason} {all : ActionSet} {index : Blocks} {rows_limit kept_limit actions limit : ℕ} {common : List (Option Reason)} (store : IsStore rows kept all index rows_limit kept_limit actions)
    (pool : Pool) (shown : record { rows = rows_of actions kept rows; limit = limit; actions = actions; common = common } ≡ pool) where
  same_keys : map (λ (row : Row). row.key) rows ≡ keys pool
  same_keys = sym (keys-rows_of actions kept rows) ∙ ap keys shown

  pub placed_by : All (HasPlace pool.actions) (keys pool) → ArePlaced index (keys pool)
  placed_by each =
      let same : pool.actions ≡ index.places = sym (ap (λ (p : Pool). p.actions) shown) ∙ sym store.index_places in
      record {
        indexed = subst (IsIndexed index) same_keys store.indexed;
        whole = ap (λ (n : ℕ). n % 24) store.index_places ∙ store.whole;
        each = subst (λ (n : ℕ). All (HasPlace n) (keys pool)) same each;
      }

  pub key_by : (row : ℕ) (d : Row) → row < length pool.rows → d ≡ get_or rows row d → slice_get (keys pool) row ≡ Some d.key
  key_by row d within is =
      let long = length-map rows (λ (r : Row). r.key) in
      let same = ap length same_keys in
      let count = length-map pool.rows (λ (r : PoolRow). r.key) in
      ap (λ (ks : List Key). slice_get ks row) (sym same_keys)
      ∙ (key_at rows row d (omega (arith, within, long, same, count)) ∙ ap (λ (r : Row). Some r.key) (sym is))

-- ---- the next row
module _ (pool : Pool) (index : Blocks) (placed : ArePlaced index (keys pool)) where
  within : (next : ℕ) → next < length (keys pool) → next < length pool.rows
  within next low = let same = length-map pool.rows (λ (row : PoolRow). row.key) in omega (arith, low, same)

  has : (row : ℕ) (key : Key) → slice_get (keys pool) row ≡ Some key → HasPlace index.places key
  has = key_has index (keys pool) placed

  -- the first of all
  pub first_row : (next : ℕ) → IsFirstOf index 0 next → IsNextRow pool None next
  first_row next first = record {
    within = within next (next_within index (keys pool) placed first.set 0 next first.first);
    after = λ key at r k is its. absurd (none-some r is);
    least = λ key other r at its differ after.
        after_reach index.places key other (has next key at) (has r other its)
        (least_of index (keys pool) placed 0 next first key at r other its differ (omega arith));
  }

  pub no_first : HaveNoRows index 0 4096 → HasNoNext pool None
  no_first none r key at after = none_of index (keys pool) placed 0 4096 r key at none (omega arith) (has r key at).mask

  module _ (row : ℕ) (own : Key) (owns : slice_get (keys pool) row ≡ Some own) where
    -- what comes after the row's key is at a later place of its set, or of a later set
    own_reach : (other : Key) → HasPlace index.places other → IsAfter pool (Some row) other → Reaches index.places own.mask.0 (key_place index.places own + 1) other
    own_reach other its after = reach_after index.places own other (has row own owns) its (after row own refl owns)

    own_after : (key : Key) → HasPlace index.places key → Reaches index.places own.mask.0 (key_place index.places own + 1) key → IsAfter pool (Some row) key
    own_after key its reach r k is at =
        let same : slice_get (keys pool) row ≡ Some k = ap (slice_get (keys pool)) (same_Some row r is) ∙ at in
        subst (λ (one : Key). KeyIsBefore one key) (same_Some own k (sym owns ∙ same)) (after_reach index.places own key (has row own owns) its reach)

    -- the next of its set
    pub next_in : (next : ℕ) → IsFirstIn index own.mask.0 (key_place index.places own + 1) next → IsNextRow pool (Some row) next
    next_in next first = record {
      within = within next (next_within index (keys pool) placed own.mask.0 (key_place index.places own + 1) next first);
      after = λ key at. own_after key (has next key at) (reaches_first index (keys pool) placed own.mask.0 (key_place index.places own + 1) next first key at);
      least = λ key other r at its differ after.
          after_reach index.places key other (has next key at) (has r other its)
          (least_in index (keys pool) placed own.mask.0 (key_place index.places own + 1) next first key at r other its differ (own_reach other (has r other its) after));
    }

    module _ (none : HasNoRow index own.mask.0 (key_place index.places own + 1) index.places) where
      later_set : (r : ℕ) (other : Key) → slice_get (keys pool) r ≡ Some other → Reaches index.places own.mask.0 (key_place index.places own + 1) other → own.mask.0 + 1 ≤ other.mask.0
      later_set r other its (inl later) = omega (arith, later)
      later_set r other its (inr (mask, later)) =
          absurd (none_in index (keys pool) placed own.mask.0 (key_place index.places own + 1) index.places r other its none mask later
          (below index (keys pool) placed r other its))

      -- the first of a later set
      pub next_of : (next : ℕ) → IsFirstOf index (own.mask.0 + 1) next → IsNextRow pool (Some row) next
      next_of next first = record {
        within = within next (next_within index (keys pool) placed first.set 0 next first.first);
        after = λ key at.
            let later = reaches_of index (keys pool) placed (own.mask.0 + 1) next first key at in
            own_after key (has next key at) (inl (omega (arith, later)));
        least = λ key other r at its differ after.
            after_reach index.places key other (has next key at) (has r other its)
            (least_of index (keys pool) placed (own.mask.0 + 1) next first key at r other its differ (later_set r other its (own_reach other (has r other its) after)));
      }

      pub no_next : HaveNoRows index (own.mask.0 + 1) 4096 → HasNoNext pool (Some row)
      no_next none_later r other its after =
          none_of index (keys pool) placed (own.mask.0 + 1) 4096 r other its none_later
          (later_set r other its (own_reach other (has r other its) after)) (has r other its).mask
