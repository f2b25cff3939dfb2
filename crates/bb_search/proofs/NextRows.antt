-- The rows of a pool one after the other, in the order of their keys.
use Rattle.std.proofs.Common.{◌≡◌, ◌≢◌, inl, inr, ℕ, suc, ◌+◌, ◌-◌, ◌*◌, ◌<◌, ◌≤◌, List, length, get_or, Option, Some, None, arith, refl, sym, ◌∙◌, ap, subst}
use Rattle.std.specs.Prelude.{slice_get, All, IfSome, IfNone}
use Rattle.std.proofs.lemmas.Bool.{cases_lt}
use Rattle.std.proofs.lemmas.Bool.Decides.{eqb_tells}
use Rattle.std.proofs.lemmas.Option.{slice_get-get_or, slice_get_within, get_or_from_slice_get, same_Some, none-some}
use Rattle.brake_base.specs.declared.stroke.Key.{Key}
use Rattle.brake_base.specs.Keys.{KeyIsBefore}
use Rattle.row_pool.specs.Rows.{Pool, PoolRow, IsPool, keys}
use Rattle.row_pool.specs.Store.{key_number}
use Rattle.row_pool.specs.Index.{HasPlace}
use Rattle.row_pool.specs.Order.{IsAfter, IsNextRow, HasNoNext}
use Rattle.bb_search.specs.CertRows.{row_order, row_of_order, IsRowOrder, AreSortedRows}
use Rattle.bb_search.specs.WrittenRows.{AreWritable}
use Rattle.bb_search.proofs.CertLemmas.{mapped}
use Rattle.bb_search.proofs.OutcomeLemmas.{apart}
use Rattle.bb_search.proofs.RowOrders.{key_before, row_of_row_order}
use Rattle.bb_search.proofs.WriterLemmas.{placed_at}
use Rattle.bb_search.proofs.RowPlaces.{some_at}

-- ---- the numbers of keys in range
pub less_number : (places : ℕ) (a b : Key) → places ≤ 144 → HasPlace places a → HasPlace places b → KeyIsBefore a b → key_number a < key_number b
less_number places a b few has_a has_b (inl mask) = let turn = has_a.attitude in let stage = has_a.stage in omega (arith, few, mask, turn, stage)
less_number places a b few has_a has_b (inr (mask, inl turn)) = let stage = has_a.stage in omega (arith, few, mask, turn, stage)
less_number places a b few has_a has_b (inr (mask, inr (turn, inl stage))) = omega (arith, mask, turn, stage)
less_number places a b few has_a has_b (inr (mask, inr (turn, inr (stage, never)))) = absurd never

pub small_number : (places : ℕ) (key : Key) → places ≤ 144 → HasPlace places key → key_number key < 4294967296
small_number places key few has = let mask = has.mask in let turn = has.attitude in let stage = has.stage in omega (arith, few, mask, turn, stage)

-- what is left behind a row; nothing where there is none
abbrev pub left_after : Option Key → ℕ
left_after None = 0
left_after (Some key) = suc (4294967296 - key_number key)

abbrev pub left_from : Pool → Option ℕ → ℕ
left_from pool None = 0
left_from pool (Some row) = left_after (slice_get (keys pool) row)

-- ---- where a row stands in the order of keys
-- the row at a place; none behind the last
abbrev pub StandsAt : List ℕ → ℕ → Option ℕ → Type 0
StandsAt orders count None = count ≡ length orders
StandsAt orders count (Some row) = (order : ℕ) × (slice_get orders count ≡ Some order) × (row_of_order order ≡ row)

-- the place behind that of a row; the first where there is none
abbrev pub StandsAfter : List ℕ → ℕ → Option ℕ → Type 0
StandsAfter orders count None = count ≡ 0
StandsAfter orders count (Some row) = (place : ℕ) × (order : ℕ) × (slice_get orders place ≡ Some order) × (row_of_order order ≡ row) × (count ≡ place + 1)

module _ (pool : Pool) (is_pool : IsPool pool) (places : ℕ) (few : places ≤ 144) (placed : All (HasPlace places) (keys pool)) (orders : List ℕ) (are : AreSortedRows pool.rows orders) where
  has : (row : ℕ) (it : PoolRow) → slice_get pool.rows row ≡ Some it → HasPlace places it.key
  has = placed_at pool places placed

  -- the row of an order
  row_at : (place order : ℕ) → slice_get orders place ≡ Some order → IsRowOrder pool.rows order
  row_at place order at = subst (IsRowOrder pool.rows) (get_or_from_slice_get orders place order 0 at) (are.only place 0 (slice_get_within orders place order at))

  rising : (i j first second : ℕ) → i < j → slice_get orders i ≡ Some first → slice_get orders j ≡ Some second → first < second
  rising i j first second before at_i at_j =
      subst (λ (x : ℕ). x < second) (get_or_from_slice_get orders i first 0 at_i)
      (subst (λ (y : ℕ). get_or orders i 0 < y) (get_or_from_slice_get orders j second 0 at_j) (are.ascending i j 0 before (slice_get_within orders j second at_j)))

  -- of rows at rising places the keys rise
  keys_rise : (first second : ℕ) → first < second → (a : IsRowOrder pool.rows first) (b : IsRowOrder pool.rows second) → KeyIsBefore a.0.key b.0.key
  keys_rise first second less a b =
      let m = row_of_order first in
      let n = row_of_order second in
      let low_a = slice_get_within pool.rows m a.0 a.1 in
      let low_b = slice_get_within pool.rows n b.0 b.1 in
      let place_a = a.2 in
      let place_b = b.2 in
      let count = are.few in
      let numbers : key_number a.0.key ≤ key_number b.0.key = omega (arith, less, place_a, place_b, low_a, low_b, count) in
      let has_a = has m a.0 a.1 in
      let has_b = has n b.0 b.1 in
      let turn_a = has_a.attitude in
      let turn_b = has_b.attitude in
      let stage_a = has_a.stage in
      let stage_b = has_b.stage in
      key_before a.0.key b.0.key (omega (arith, turn_a)) (omega (arith, stage_a, few)) (omega (arith, turn_b)) (omega (arith, stage_b, few)) numbers
      (λ same. apart pool is_pool m n a.0 b.0 a.1 b.1 (less_rows a.0.key b.0.key place_a place_b same) same)
    where
      -- of one key the row at the lesser place has the lesser number
      less_rows : (k l : Key) → first ≡ row_order k (row_of_order first) → second ≡ row_order l (row_of_order second) → k ≡ l → row_of_order first < row_of_order second
      less_rows k l at_a at_b same = let numbers = ap key_number same in omega (arith, less, at_a, at_b, numbers)

  -- the key of a later place comes after the row's
  after_row : (count order : ℕ) (row : Option ℕ) → StandsAfter orders count row → (later : ℕ) → count ≤ later → slice_get orders later ≡ Some order → (it : IsRowOrder pool.rows order) → IsAfter pool row it.0.key
  after_row count order None stands later high at it r key is its = absurd (none-some r is)
  after_row count order (Some row) (place, own, owns, row_is, behind) later high at it r key is its =
      let mine = row_at place own owns in
      let same : row_of_order own ≡ r = row_is ∙ same_Some row r is in
      let there = mapped (λ (x : PoolRow). x.key) pool.rows (row_of_order own) mine.0 mine.1 in
      let own_key : mine.0.key ≡ key = same_Some mine.0.key key (sym there ∙ (ap (slice_get (keys pool)) same ∙ its)) in
      subst (λ (k : Key). KeyIsBefore k it.0.key) own_key (keys_rise own order (rising place later own order (omega (arith, behind, high)) owns at) mine it)

  module _ (count : ℕ) (row : Option ℕ) (stands : StandsAfter orders count row) where
    -- no place before has a key after the row's
    late : (place order : ℕ) → slice_get orders place ≡ Some order → (it : IsRowOrder pool.rows order) → IsAfter pool row it.0.key → place < count → ⊥
    late place order at it after before = by_row row stands after
      where
        by_row : (r : Option ℕ) → StandsAfter orders count r → IsAfter pool r it.0.key → ⊥
        by_row None none its = omega (arith, none, before)
        by_row (Some r) (own_place, own, owns, row_is, behind) its =
            let mine = row_at own_place own owns in
            let there = mapped (λ (x : PoolRow). x.key) pool.rows (row_of_order own) mine.0 mine.1 in
            let up = its r mine.0.key refl (ap (slice_get (keys pool)) (sym row_is) ∙ there) in
            let numbers = less_number places mine.0.key it.0.key few (has (row_of_order own) mine.0 mine.1) (has (row_of_order order) it.0 it.1) up in
            let place_a = mine.2 in
            let place_b = it.2 in
            let low = slice_get_within pool.rows (row_of_order own) mine.0 mine.1 in
            let count_few = are.few in
            let rises : own < order = omega (arith, numbers, place_a, place_b, low, count_few) in
            elim (cases_lt place own_place) [
              | inl earlier ↦ let falls = rising place own_place order own earlier at owns in omega (arith, rises, falls)
              | inr more ↦
                  let here : place ≡ own_place = omega (arith, before, behind, more) in
                  let same : order ≡ own = same_Some order own (sym at ∙ (ap (slice_get orders) here ∙ owns)) in
                  omega (arith, rises, same)
            ]

    -- the key of the row at this place comes after the row's
    here_after : (order : ℕ) → slice_get orders count ≡ Some order → (it : IsRowOrder pool.rows order) → IsAfter pool row it.0.key
    here_after order at it = after_row count order row stands count (omega arith) at it

    count_within : (r : Option ℕ) → StandsAfter orders count r → count ≤ length orders
    count_within None none = omega (arith, none)
    count_within (Some r) (place, own, owns, row_is, behind) = let low = slice_get_within orders place own owns in omega (arith, low, behind)

    pub next_place : (next : ℕ) → IsNextRow pool row next → StandsAt orders count (Some next)
    next_place next is =
        let it = some_at pool.rows next is.within in
        let (place, within, get) = are.each next it.0 it.1 in
        by_place it.0 it.1 (mapped (λ (r : PoolRow). r.key) pool.rows next it.0 it.1) place
        (slice_get-get_or orders place (row_order it.0.key next) within ∙ ap Some get)
      where
        by_place : (own : PoolRow) → slice_get pool.rows next ≡ Some own → slice_get (keys pool) next ≡ Some own.key → (place : ℕ) → slice_get orders place ≡ Some (row_order own.key next) → StandsAt orders count (Some next)
        by_place own at there place ordered = elim (cases_lt place count) [
          | inl before ↦
              let after = subst (λ (r : PoolRow). IsAfter pool row r.key) (sym mine) (is.after own.key there) in
              absurd (late place order ordered it after before)
          | inr high ↦ elim (eqb_tells place count) [
            | inl same ↦ (order, ap (slice_get orders) (sym same.1) ∙ ordered, number)
            | inr other ↦ let apart_places = other.1 in absurd (none_between (omega (arith, high, apart_places)))
          ]
        ]
          where
            order : ℕ
            order = row_order own.key next

            few_rows : next < 4294967296
            few_rows = let low = is.within in let count_few = are.few in omega (arith, low, count_few)

            number : row_of_order order ≡ next
            number = row_of_row_order own.key next few_rows

            it : IsRowOrder pool.rows order
            it = row_at place order ordered

            mine : it.0 ≡ own
            mine = same_Some it.0 own (sym it.1 ∙ (ap (slice_get pool.rows) number ∙ at))

            -- a row at an earlier place from this one on would be the next
            none_between : count < place → ⊥
            none_between less =
                let within = slice_get_within orders place order ordered in
                let first = get_or orders count 0 in
                let at_first = slice_get-get_or orders count 0 (omega (arith, less, within)) in
                let its = row_at count first at_first in
                let rises = rising count place first order less at_first ordered in
                let row_first = row_of_order first in
                let place_first = its.2 in
                let key_first = its.0.key in
                let differ : row_first ≢ next = λ same.
                let one : its.0 ≡ own = same_Some its.0 own (sym its.1 ∙ (ap (slice_get pool.rows) same ∙ at)) in
                let equal : first ≡ order = place_first ∙ (λ i. row_order (one i).key (same i)) in
                omega (arith, rises, equal) in
                let before = is.least own.key key_first row_first there (mapped (λ (r : PoolRow). r.key) pool.rows row_first its.0 its.1) differ (here_after first at_first its) in
                let numbers = less_number places own.key key_first few (has next own at) (has row_first its.0 its.1) before in
                falls first (key_number own.key) (key_number key_first) row_first rises place_first numbers
              where
                falls : (first low high n : ℕ) → first < low * 4294967296 + next → first ≡ high * 4294967296 + n → low < high → ⊥
                falls first low high n less at_first up = omega (arith, less, at_first, up, few_rows)

    pub no_place : HasNoNext pool row → StandsAt orders count None
    no_place none = elim (cases_lt count (length orders)) [
      | inl low ↦
          let order = get_or orders count 0 in
          let at = slice_get-get_or orders count 0 low in
          let it = row_at count order at in
          absurd (none (row_of_order order) it.0.key (mapped (λ (r : PoolRow). r.key) pool.rows (row_of_order order) it.0 it.1) (here_after order at it))
      | inr high ↦ let low = count_within row stands in omega (arith, low, high)
    ]

-- what stands at a place, or behind the last, follows from what is found
stands_found : (pool : Pool) (orders : List ℕ) (count : ℕ) (row found : Option ℕ) → ((next : ℕ) → IsNextRow pool row next → StandsAt orders count (Some next)) → (HasNoNext pool row → StandsAt orders count None) → IfSome found (IsNextRow pool row) → IfNone found (HasNoNext pool row) → StandsAt orders count found
stands_found pool orders count row None so none is_next is_none = none is_none
stands_found pool orders count row (Some next) so none is_next is_none = so next is_next

module _ (pool : Pool) (is_pool : IsPool pool) (stages : ℕ) (writable : AreWritable stages pool) where
  few_places : pool.actions ≤ 144
  few_places = let few = writable.few in let actions = writable.actions in omega (arith, few, actions)

  pub standing : (orders : List ℕ) → AreSortedRows pool.rows orders → (count : ℕ) (row : Option ℕ) → StandsAfter orders count row → (found : Option ℕ) → IfSome found (IsNextRow pool row) → IfNone found (HasNoNext pool row) → StandsAt orders count found
  standing orders are count row after found =
      stands_found pool orders count row found (next_place pool is_pool pool.actions few_places writable.placed orders are count row after)
      (no_place pool is_pool pool.actions few_places writable.placed orders are count row after)

  -- less is left behind the next row
  pub less_left : (row : ℕ) → row < length pool.rows → (found : Option ℕ) → IfSome found (IsNextRow pool (Some row)) → left_from pool found < left_from pool (Some row)
  less_left row within found is_next =
      let own = some_at pool.rows row within in
      let there = mapped (λ (r : PoolRow). r.key) pool.rows row own.0 own.1 in
      let has = placed_at pool pool.actions writable.placed row own.0 own.1 in
      subst (λ (k : Option Key). left_from pool found < left_after k) (sym there) (by_found own.0.key there has found is_next)
    where
      shrinks : (a b : ℕ) → a < b → a < 4294967296 → suc (4294967296 - b) < suc (4294967296 - a)
      shrinks a b up small = omega (arith, up, small)

      by_found : (key : Key) → slice_get (keys pool) row ≡ Some key → HasPlace pool.actions key → (f : Option ℕ) → IfSome f (IsNextRow pool (Some row)) → left_from pool f < left_after (Some key)
      by_found key there has None is = omega arith
      by_found key there has (Some next) is =
          let other = some_at pool.rows next is.within in
          let at = mapped (λ (r : PoolRow). r.key) pool.rows next other.0 other.1 in
          let up = is.after other.0.key at row key refl there in
          let numbers = less_number pool.actions key other.0.key few_places has (placed_at pool pool.actions writable.placed next other.0 other.1) up in
          subst (λ (k : Option Key). left_after k < left_after (Some key)) (sym at)
          (shrinks (key_number key) (key_number other.0.key) numbers (small_number pool.actions key few_places has))
