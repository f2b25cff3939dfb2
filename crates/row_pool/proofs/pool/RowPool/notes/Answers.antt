use Rattle.std.proofs.Common.{◌≡◌, ℕ, ◌+◌, ◌*◌, ◌/◌, ◌%◌, ◌&&◌, nat_lt, ◌<◌, Some, length, sym, ◌∙◌, ap, subst, arith}
use Rattle.std.specs.Prelude.{slice_get, is_some, vec_capacity}
use Rattle.std.proofs.lemmas.Option.{same_Some}
use Rattle.brake_base.specs.declared.stroke.Key.{Key}
use Rattle.brake_base.specs.declared.reason.Reason.{Reason}
use Rattle.stage_lanes.specs.ActionSets.{ArePlaces}
use Rattle.row_pool.specs.declared.row.Row.{Row}
use Rattle.row_pool.specs.Rows.{Pool, keys, reason_at, common_at}
use Rattle.row_pool.specs.Store.{rows_of, commons}
use Rattle.row_pool.proofs.RowsOfLemmas.{key_at-rows_of, length-rows_of}
use Rattle.row_pool.proofs.NextLemmas.{notes_are, shown_common}
use Rattle.row_pool.proofs.pool.RowPool.notes.Goals as goal

pub returns : goal.returns
returns c =
    let p = c.self.inside in
    let row = c.args.row in
    let d = c.index.result.now in
    let is = c.index.ensures in
    let same : length p.rows.items ≡ length c.args.self.now.rows = sym (length-rows_of p.actions p.kept.items p.rows.items) ∙ ap (λ (pool : Pool). length pool.rows) c.self.view_is in
    let within : row < length p.rows.items = omega (arith, same, c.requires.row) in
    let pool : Pool = record { rows = rows_of p.actions p.kept.items p.rows.items; limit = vec_capacity p.rows; actions = p.actions; common = commons p.actions p.kept.items } in
    let Places : Pool → Type 0 = λ q. ArePlaces d.notes (λ place. nat_lt (place % 8) (q.actions / 24) && is_some (reason_at q row (place / 8 * (q.actions / 24) + place % 8))) in
    let Common : Pool → Type 0 = λ q. (key : Key) (number : ℕ) (reason : Reason) → slice_get (keys q) row ≡ Some key → reason_at q row number ≡ Some reason → common_at q key.mask number ≡ Some reason in
    record {
      places = subst Places c.self.view_is (notes_are _ _ _ _ _ _ _ c.self.invariant row d is within);
      common = subst Common c.self.view_is (λ key number reason at its.
          let own = key_at-rows_of p.actions p.kept.items p.rows.items row d within ∙ ap (λ (r : Row). Some r.key) (sym is) in
          let key_is : d.key ≡ key = same_Some d.key key (sym own ∙ at) in
          ap (λ (k : Key). common_at pool k.mask number) (sym key_is) ∙ shown_common _ _ _ _ _ _ _ c.self.invariant row d is within number reason its);
    }
