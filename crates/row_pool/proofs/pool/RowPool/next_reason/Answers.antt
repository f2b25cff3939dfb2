use Rattle.std.proofs.Common.{◌≡◌, ◌/◌, ◌<◌, length, sym, ◌∙◌, ap, subst, arith}
use Rattle.std.specs.Prelude.{IfNone, vec_capacity}
use Rattle.brake_base.specs.Actions.{number_of_action}
use Rattle.row_pool.specs.Notes.{noted_at}
use Rattle.row_pool.specs.Rows.{Pool, HasNoReason, IsNextReason, common_place}
use Rattle.row_pool.specs.Store.{rows_of, commons}
use Rattle.row_pool.proofs.NumberLemmas.{place_below}
use Rattle.row_pool.proofs.RowsOfLemmas.{length-rows_of}
use Rattle.row_pool.proofs.NextLemmas.{on_none, shown, none_left, first_among, later, none_before, at_first, some_there}
use Rattle.row_pool.proofs.pool.RowPool.next_reason.Goals as goal

pub action_number-action-requires-clause-action : goal.action_number-action-requires-clause-action
action_number-action-requires-clause-action c =
    let p = c.self.inside in
    let row = c.args.row in
    let d = c.index-row.result.now in
    let same : length p.rows.items ≡ length c.args.self.now.rows = sym (length-rows_of p.actions p.kept.items p.rows.items) ∙ ap (λ (pool : Pool). length pool.rows) c.self.view_is in
    let within : row < length p.rows.items = omega (arith, same, c.requires.row) in
    let same_actions : p.actions ≡ c.args.self.now.actions = ap (λ (pool : Pool). pool.actions) c.self.view_is in
    let first = c.in_ok-first.field-0 in
    let is_first = c.in_ok-first.ensures.some in
    let low = place_below first is_first.among in
    first_among _ _ _ _ _ _ _ c.self.invariant row d c.index-row.ensures within c.action_of.result c.action_of.ensures.action c.before-earlier.result c.without.result c.before-earlier.ensures.places c.without.ensures.places first is_first low

pub returns-in_err-first-clause-none : goal.returns-in_err-first-clause-none
returns-in_err-first-clause-none c =
    let p = c.self.inside in
    let row = c.args.row in
    let d = c.index-row.result.now in
    let same : length p.rows.items ≡ length c.args.self.now.rows = sym (length-rows_of p.actions p.kept.items p.rows.items) ∙ ap (λ (pool : Pool). length pool.rows) c.self.view_is in
    let within : row < length p.rows.items = omega (arith, same, c.requires.row) in
    let same_actions : p.actions ≡ c.args.self.now.actions = ap (λ (pool : Pool). pool.actions) c.self.view_is in
    let from = c.action_of.ensures.value in
    let pool : Pool = record { rows = rows_of p.actions p.kept.items p.rows.items; limit = vec_capacity p.rows; actions = p.actions; common = commons p.actions p.kept.items } in
    let P : Pool → Type 0 = λ q. IfNone c.from_residual.result (HasNoReason q row c.args.from q.actions) in
    subst P c.self.view_is (on_none c.from_residual.result (HasNoReason pool row c.args.from p.actions)
    (λ number late early known. none_left _ _ _ _ _ _ _ c.self.invariant row d c.index-row.ensures within c.action_of.result c.action_of.ensures.action c.before-earlier.result c.without.result c.before-earlier.ensures.places c.without.ensures.places c.in_err-first.ensures.none number (omega (arith, from, late)) known))

pub returns-in_err-reason-clause-none : goal.returns-in_err-reason-clause-none
returns-in_err-reason-clause-none c =
    let p = c.self.inside in
    let row = c.args.row in
    let d = c.index-row.result.now in
    let same : length p.rows.items ≡ length c.args.self.now.rows = sym (length-rows_of p.actions p.kept.items p.rows.items) ∙ ap (λ (pool : Pool). length pool.rows) c.self.view_is in
    let within : row < length p.rows.items = omega (arith, same, c.requires.row) in
    let same_actions : p.actions ≡ c.args.self.now.actions = ap (λ (pool : Pool). pool.actions) c.self.view_is in
    let first = c.in_ok-first.field-0 in
    let is_first = c.in_ok-first.ensures.some in
    let low = place_below first is_first.among in
    let below = c.action_number-action.ensures.below in
    let whole = c.self.invariant.whole in
    let its = c.action_number-action.ensures.value in
    let known : number_of_action (p.actions / 24) first < p.actions = omega (arith, below, whole, its) in
    let read = c.kept_at.ensures ∙ (λ i. noted_at (c.deref.ensures.value i) ((c.common_place.ensures.place ∙ ap (common_place p.actions d.key.mask) its) i)) in
    absurd (some_there _ _ _ _ _ _ _ c.self.invariant row d c.index-row.ensures within c.action_of.result c.action_of.ensures.action c.before-earlier.result c.without.result c.before-earlier.ensures.places c.without.ensures.places first is_first low known (sym read ∙ c.in_err-reason.was))

pub returns-clause-some : goal.returns-clause-some
returns-clause-some c =
    let p = c.self.inside in
    let row = c.args.row in
    let d = c.index-row.result.now in
    let same : length p.rows.items ≡ length c.args.self.now.rows = sym (length-rows_of p.actions p.kept.items p.rows.items) ∙ ap (λ (pool : Pool). length pool.rows) c.self.view_is in
    let within : row < length p.rows.items = omega (arith, same, c.requires.row) in
    let same_actions : p.actions ≡ c.args.self.now.actions = ap (λ (pool : Pool). pool.actions) c.self.view_is in
    let first = c.in_ok-first.field-0 in
    let is_first = c.in_ok-first.ensures.some in
    let low = place_below first is_first.among in
    let below = c.action_number-action.ensures.below in
    let whole = c.self.invariant.whole in
    let its = c.action_number-action.ensures.value in
    let from = c.action_of.ensures.value in
    let number = c.action_number-action.result in
    let reason = c.in_ok-reason.reason in
    let known : number_of_action (p.actions / 24) first < p.actions = omega (arith, below, whole, its) in
    let read = c.kept_at.ensures ∙ (λ i. noted_at (c.deref.ensures.value i) ((c.common_place.ensures.place ∙ ap (common_place p.actions d.key.mask) its) i)) in
    let after = later _ _ _ _ _ _ _ c.self.invariant row d c.index-row.ensures within c.action_of.result c.action_of.ensures.action c.before-earlier.result c.without.result c.before-earlier.ensures.places c.without.ensures.places first is_first low in
    let there = ap (shown (rows_of p.actions p.kept.items p.rows.items) row) its ∙ (at_first _ _ _ _ _ _ _ c.self.invariant row d c.index-row.ensures within c.action_of.result c.action_of.ensures.action c.before-earlier.result c.without.result c.before-earlier.ensures.places c.without.ensures.places first is_first low known ∙ (sym read ∙ c.in_ok-reason.was)) in
    let P : Pool → Type 0 = λ q. IsNextReason q row c.args.from number reason in
    subst P c.self.view_is (record {
      later = omega (arith, after, from, its);
      known = omega (arith, known, its);
      has = there;
      first = λ n late early in_all. none_before _ _ _ _ _ _ _ c.self.invariant row d c.index-row.ensures within c.action_of.result c.action_of.ensures.action c.before-earlier.result c.without.result c.before-earlier.ensures.places c.without.ensures.places first is_first low n (omega (arith, from, late)) (omega (arith, its, early)) in_all;
    })
