use Rattle.std.proofs.Common.{rules, ◌≡◌, ℕ, ◌*◌, ◌/◌, List, [], Option, refl, ◌∙◌, ap}
use Rattle.std.specs.Prelude.{vec_capacity}
use Rattle.brake_base.specs.declared.reason.Reason.{Reason}
use Rattle.row_pool.specs.Rows.{Pool, PoolRow}
use Rattle.row_pool.specs.Store.{rows_of, commons}
use Rattle.row_pool.proofs.RowsOfLemmas.{commons_none}
use Rattle.row_pool.proofs.StoreLemmas.{all_places, store_empty}
use Rattle.row_pool.proofs.pool.RowPool.open.Goals as goal

pub invariant_of-result : goal.invariant_of-result
invariant_of-result c =
    let room : vec_capacity c.in_ok-rows.rows ≡ c.args.rows = search rules in
    let kept_room : vec_capacity c.in_ok-kept.kept ≡ 65536 * c.args.actions = search rules in
    rw (c.in_ok-rows.ensures.items, c.in_ok-kept.ensures.items)
    (store_empty c.of_bends.result c.in_ok-index.index (vec_capacity c.in_ok-rows.rows) (vec_capacity c.in_ok-kept.kept) c.args.actions c.in_ok-index.ensures.empty c.in_ok-index.ensures.places
    (all_places c.of_bends.result c.first.result (c.args.actions / 24) c.of_bends.ensures.places c.first.ensures.stages)
    kept_room (rw room c.requires.few_rows) c.requires.few_actions c.requires.whole)

pub returns : goal.returns
returns c =
    let room : vec_capacity c.in_ok-rows.rows ≡ c.args.rows = search rules in
    let actions = c.args.actions in
    let made : List PoolRow → ℕ → List (Option Reason) → Pool = λ rows limit common. record { rows = rows; limit = limit; actions = actions; common = common } in
    record {
      empty = (λ i. made (rows_of actions (c.in_ok-kept.ensures.items i) (c.in_ok-rows.ensures.items i)) (room i) (commons actions (c.in_ok-kept.ensures.items i)))
          ∙ ap (made [] c.args.rows) (commons_none actions (λ place. refl));
    }
