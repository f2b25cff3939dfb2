use Rattle.std.proofs.Common.{◌≡◌, ◌<◌, List, Some, length, refl, sym, ◌∙◌, ap, subst, arith}
use Rattle.std.specs.Prelude.{slice_get, vec_capacity}
use Rattle.brake_base.specs.declared.stroke.Key.{Key}
use Rattle.row_pool.specs.declared.row.Row.{Row}
use Rattle.row_pool.specs.Rows.{Pool, PoolRow, keys, common_at, AreCommon}
use Rattle.row_pool.specs.Store.{commons}
use Rattle.row_pool.proofs.RowsOfLemmas.{key_at-rows_of, length-rows_of}
use Rattle.row_pool.proofs.StoreLemmas.{store_set, notes_held, rows_with_notes}
use Rattle.row_pool.proofs.pool.RowPool.set_notes.Goals as goal

pub invariant_of-self : goal.invariant_of-self
invariant_of-self c =
    let p = c.self.inside in
    let row = c.args.row in
    let d = c.index_mut-row.result.now in
    let is = c.index_mut-row.ensures.value in
    let same : length p.rows.items ≡ length c.args.self.now.rows = sym (length-rows_of p.actions p.kept.items p.rows.items) ∙ ap (λ (pool : Pool). length pool.rows) c.self.view_is in
    let within : row < length p.rows.items = omega (arith, same, c.requires.row) in
    let P : Pool → Type 0 = λ pool. (key : Key) → slice_get (keys pool) row ≡ Some key → AreCommon pool.actions (common_at pool key.mask) c.args.notes in
    let common = subst P (sym c.self.view_is) c.requires.common d.key (key_at-rows_of p.actions p.kept.items p.rows.items row d within ∙ ap (λ (r : Row). Some r.key) (sym is)) in
    store_set _ _ _ _ _ _ _ c.self.invariant row d (record { key = d.key; found = d.found; cost = d.cost; notes = c.intersection-notes.result }) is refl
    (λ _. notes_held _ _ _ _ _ _ _ c.self.invariant row d c.args.notes c.intersection-notes.result is within c.intersection-notes.ensures.places common)

pub returns : goal.returns
returns c =
    let p = c.self.inside in
    let row = c.args.row in
    let d = c.index_mut-row.result.now in
    let is = c.index_mut-row.ensures.value in
    let same : length p.rows.items ≡ length c.args.self.now.rows = sym (length-rows_of p.actions p.kept.items p.rows.items) ∙ ap (λ (pool : Pool). length pool.rows) c.self.view_is in
    let within : row < length p.rows.items = omega (arith, same, c.requires.row) in
    let made : List PoolRow → Pool = λ found. record { rows = found; limit = vec_capacity p.rows; actions = p.actions; common = commons p.actions p.kept.items } in
    record { set = rw (← c.self.view_is) (ap made (rows_with_notes _ _ _ _ _ _ _ c.self.invariant row d c.args.notes c.intersection-notes.result is within c.intersection-notes.ensures.places)) }
