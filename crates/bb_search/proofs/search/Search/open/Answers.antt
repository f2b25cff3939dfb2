use Rattle.std.proofs.Common.{◌≡◌, ℕ, ◌*◌, min, ◌∙◌, ap}
use Rattle.job_setup.specs.Setup.{stage_count}
use Rattle.handling_cost.specs.Reach.{nodes}
use Rattle.bb_search.proofs.OpenedLemmas.{search_opened}
use Rattle.bb_search.proofs.search.Search.open.Goals as goal

pub invariant_of-result : goal.invariant_of-result
invariant_of-result c =
    let few : c.min-rows.result ≡ min c.args.budget (nodes c.args.job.now) = c.min-rows.ensures ∙ ap (λ (n : ℕ). min c.args.budget n) c.nodes.ensures.value in
    let each : 24 * c.stages.result ≡ 24 * stage_count c.args.job.now = ap (λ (n : ℕ). 24 * n) c.stages.ensures.value in
    search_opened c.args.job.now c.args.budget c.min-rows.result (24 * c.stages.result) c.in_ok-pool.pool c.new.result.items c.in_ok-trail.trail c.in_ok-table.table
    c.in_ok-table.ensures.job c.in_ok-pool.ensures.empty few each c.new.ensures c.in_ok-trail.ensures.empty c.in_ok-table.ensures.known
