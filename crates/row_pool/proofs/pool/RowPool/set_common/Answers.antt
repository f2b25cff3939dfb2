use Rattle.std.specs.Prelude.{vec_capacity}
use Rattle.row_pool.proofs.RowsOfLemmas.{commons_kept}
use Rattle.row_pool.proofs.StoreLemmas.{rows_stay, store_kept}
use Rattle.row_pool.proofs.pool.RowPool.set_common.Goals as goal

pub invariant_of-self : goal.invariant_of-self
invariant_of-self c =
    let new = c.keep.new.kept in
    store_kept _ _ _ _ _ _ _ c.self.invariant new.items c.common_place.result c.args.reason c.keep.ensures.here c.keep.ensures.others (vec_capacity new) c.keep.ensures.same_memory

pub returns : goal.returns
returns c =
    let p = c.self.inside in
    let new = c.keep.new.kept in
    let place = c.common_place.ensures.place in
    let here = rw place at c.keep.ensures.here in
    let others = rw place at c.keep.ensures.others in
    let low = rw place at c.common_place.ensures.in_range in
    let rows = rows_stay _ _ _ _ _ _ _ c.self.invariant new.items c.common_place.result c.args.reason c.keep.ensures.here c.keep.ensures.others in
    let common = commons_kept p.actions p.kept.items new.items _ c.args.reason low here others in
    record { set = rw (← c.self.view_is) (λ i. record { rows = rows i; limit = vec_capacity p.rows; actions = p.actions; common = common i }) }
