-- The text of the rows that are left.
use Rattle.std.proofs.Common.{◌≡◌, ℕ, zero, suc, ◌+◌, ◌<◌, ◌≤◌, List, [], ◌∷◌, ◌++◌, length, take, drop, get_or, Option, Some, None, arith, refl, sym, ◌∙◌, ap, subst, append_assoc}
use Rattle.std.specs.Prelude.{slice_get, option_and_then, IfSome, IfNone}
use Rattle.std.proofs.lemmas.List.{append-nil, drop_all}
use Rattle.std.proofs.lemmas.Grind.{flat_map-append}
use Rattle.std.proofs.Math.Seq.{take-suc, take-length}
use Rattle.std.proofs.lemmas.Option.{slice_get-get_or}
use Rattle.brake_base.specs.declared.stroke.Worth.{Worth}
use Rattle.cert_lines.specs.declared.row_head.RowHead.{RowHead}
use Rattle.row_pool.specs.Rows.{Pool, PoolRow, IsPool, worth_at}
use Rattle.row_pool.specs.Order.{IsNextRow, HasNoNext}
use Rattle.bb_search.specs.CertRows.{row_order, row_of_order, AreSortedRows, IsHeadOf}
use Rattle.bb_search.specs.WrittenRows.{AreWritable, row_text, orders_of, orders_text, rest_text, AreRowsWritten, AreAllRowsWritten}
use Rattle.bb_search.proofs.RowOrders.{row_of_row_order, row_within}
use Rattle.bb_search.proofs.WrittenLemmas.{no_rows, row_more}
use Rattle.bb_search.proofs.RowPlaces.{some_at, sorted_orders, split_at, order_is, orders_at}
use Rattle.bb_search.proofs.NextRows.{StandsAt, StandsAfter, standing}

module _ (pool : Pool) (is_pool : IsPool pool) (stages : ℕ) (writable : AreWritable stages pool) where
  -- what is left where a row stands, or behind the last
  rest_at : length pool.rows < 4294967296 → (count : ℕ) (found : Option ℕ) → StandsAt (orders_of pool) count found → rest_text pool stages found ≡ orders_text pool stages (drop count (orders_of pool))
  unfolding rest_text
  rest_at low count None behind = ap (orders_text pool stages) (sym (drop_all count (orders_of pool) (omega (arith, behind))))
  rest_at low count (Some row) (order, at, is) = ap (orders_text pool stages) (orders_at pool.rows (orders_of pool) (sorted_orders pool low) row count order at is)

  -- the text of a row, and then what is left
  pub rest_more : length pool.rows < 4294967296 → (row : ℕ) → row < length pool.rows → (found : Option ℕ) → IfSome found (IsNextRow pool (Some row)) → IfNone found (HasNoNext pool (Some row)) → rest_text pool stages (Some row) ≡ row_text pool stages row ++ rest_text pool stages found
  rest_more low row within found is_next is_none =
      let orders = orders_of pool in
      let are = sorted_orders pool low in
      let it = some_at pool.rows row within in
      let order = row_order it.0.key row in
      let (place, inside, get) = are.each row it.0 it.1 in
      let at : slice_get orders place ≡ Some order = slice_get-get_or orders place order inside ∙ ap Some get in
      let is : row_of_order order ≡ row = row_of_row_order it.0.key row (omega (arith, within, low)) in
      let after : StandsAfter orders (place + 1) (Some row) = (place, order, at, is, refl) in
      let next = rest_at low (place + 1) found (standing pool is_pool stages writable orders are (place + 1) (Some row) after found is_next is_none) in
      let one : suc place ≡ place + 1 = omega arith in
      rest_at low place (Some row) (order, at, is)
      ∙ ap (orders_text pool stages) (split_at orders place order at)
      ∙ (λ i. row_text pool stages (is i) ++ orders_text pool stages (drop (one i) orders))
      ∙ ap (λ (t : List ℕ). row_text pool stages row ++ t) (sym next)

  -- a row has a key and a worth
  head_there : (row : ℕ) → row < length pool.rows → (head : RowHead) × IsHeadOf pool.rows row head
  head_there row within =
      let it = some_at pool.rows row within in
      let same : worth_at pool row ≡ it.0.worth = ap (option_and_then (λ (r : PoolRow). r.worth)) it.1 in
      by_worth it.0 it.1 it.0.worth refl (λ none. writable.done row within (same ∙ none))
    where
      by_worth : (it : PoolRow) → slice_get pool.rows row ≡ Some it → (w : Option Worth) → it.worth ≡ w → (w ≡ None → ⊥) → (head : RowHead) × IsHeadOf pool.rows row head
      by_worth it at None is some = absurd (some refl)
      by_worth it at (Some worth) is some = (record { key = it.key; worth = worth }, (it, at, refl, is))

  module _ (orders : List ℕ) (are : AreSortedRows pool.rows orders) (old : List ℕ) where
    written_to : (count : ℕ) → count ≤ length orders → AreRowsWritten pool stages orders count old (old ++ orders_text pool stages (take count orders))
    written_to zero within = subst (AreRowsWritten pool stages orders 0 old) (sym (append-nil old)) (no_rows pool stages orders old)
    written_to (suc count) within =
        let before = written_to count (omega (arith, within)) in
        let order = get_or orders count 0 in
        let low : count < length orders = omega (arith, within) in
        let at = slice_get-get_or orders count 0 low in
        let own = row_within pool.rows order (order_is pool.rows orders are count order at) in
        let head = head_there (row_of_order order) own in
        let texts : orders_text pool stages (take (suc count) orders) ≡ orders_text pool stages (take count orders) ++ row_text pool stages (row_of_order order) =
        ap (orders_text pool stages) (take-suc orders count 0 low) ∙ flat_map-append (λ (o : ℕ). row_text pool stages (row_of_order o)) (take count orders) (order ∷ [])
        ∙ ap (λ (t : List ℕ). orders_text pool stages (take count orders) ++ t) (append-nil (row_text pool stages (row_of_order order))) in
        let told = ap (λ (t : List ℕ). old ++ t) texts ∙ sym (append_assoc old (orders_text pool stages (take count orders)) (row_text pool stages (row_of_order order))) in
        let more : count + 1 ≡ suc count = omega arith in
        subst (λ (n : ℕ). AreRowsWritten pool stages orders n old (old ++ orders_text pool stages (take (suc count) orders))) more
        (row_more pool stages is_pool writable.few writable.actions orders count order at head.0 head.1 old (old ++ orders_text pool stages (take count orders)) (old ++ orders_text pool stages (take (suc count) orders)) before told)

  -- from the first row on all are left
  pub all_left : length pool.rows < 4294967296 → (found : Option ℕ) → IfSome found (IsNextRow pool None) → IfNone found (HasNoNext pool None) → (old : List ℕ) → AreAllRowsWritten pool stages old (old ++ rest_text pool stages found)
  all_left low found is_next is_none old =
      let orders = orders_of pool in
      let are = sorted_orders pool low in
      let text : rest_text pool stages found ≡ orders_text pool stages orders = rest_at low 0 found (standing pool is_pool stages writable orders are 0 None refl found is_next is_none) in
      let whole : take (length orders) orders ≡ orders = take-length orders in (
        orders,
        are,
        subst (λ (t : List ℕ). AreRowsWritten pool stages orders (length orders) old (old ++ t)) (sym text)
            (subst (λ (l : List ℕ). AreRowsWritten pool stages orders (length orders) old (old ++ orders_text pool stages l)) whole (written_to orders are old (length orders) (omega arith))),
      )
