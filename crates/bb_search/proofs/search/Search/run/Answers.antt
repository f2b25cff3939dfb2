use Rattle.std.proofs.Common.{◌≡◌, ℕ, ◌*◌, min, Option, sym, ◌∙◌, ap, subst}
use Rattle.brake_base.specs.declared.stroke.Worth.{Worth}
use Rattle.job_setup.specs.Setup.{JobData, stage_count}
use Rattle.row_pool.specs.Rows.{Pool, empty_pool}
use Rattle.handling_cost.specs.Plan.{start}
use Rattle.handling_cost.specs.Reach.{nodes}
use Rattle.bb_search.specs.Searches.{SearchData}
use Rattle.bb_search.specs.Settling.{IsFound}
use Rattle.bb_search.specs.KnownActions.{AreKnown}
use Rattle.bb_search.proofs.OutcomeLemmas.{answer_is, within_budget}
use Rattle.bb_search.proofs.search.Search.run.Goals as goal

-- the pool that the search had before the run was empty
found_in : (job table : JobData) (budget : ℕ) (before after : Pool) (worth : Option Worth) → table ≡ job → before ≡ empty_pool (min budget (nodes table)) (24 * stage_count table)
    → IsFound job before after start worth → IsFound job (empty_pool (min budget (nodes job)) (24 * stage_count job)) after start worth
found_in job table budget before after worth same empty found =
    subst (λ (p : Pool). IsFound job p after start worth) (empty ∙ ap (λ (j : JobData). empty_pool (min budget (nodes j)) (24 * stage_count j)) same) found

pub start_worth-worth-requires-clause-known : goal.start_worth-worth-requires-clause-known
start_worth-worth-requires-clause-known c =
    let inside = c.self.inside in
    let table : inside.table.job ≡ c.args.job.now = ap (λ (s : SearchData). s.job) c.self.view_is ∙ sym c.requires.job in
    subst (λ (j : JobData). AreKnown j inside.pool inside.table) table (c.self.invariant.known (ap (λ (s : SearchData). s.outcome) c.self.view_is ∙ c.requires.fresh))

pub returns-clause-answer : goal.returns-clause-answer
returns-clause-answer c =
    let job = c.args.job.now in
    let inside = c.self.inside in
    let pool = c.start_worth-worth.new.pool in
    let worth = c.start_worth-worth.result in
    let table : inside.table.job ≡ job = ap (λ (s : SearchData). s.job) c.self.view_is ∙ sym c.requires.job in
    let fresh = c.self.invariant.fresh (ap (λ (s : SearchData). s.outcome) c.self.view_is ∙ c.requires.fresh) in
    let found = found_in job inside.table.job inside.budget inside.pool pool worth table (ap (λ (s : SearchData). s.pool) fresh) c.start_worth-worth.ensures.found in
    rw c.outcome_with-outcome.ensures
    (answer_is job c.start_worth-worth.ensures.valid (24 * stage_count job) inside.budget pool c.steps_of-self-inside.result.items c.len-rows.ensures.pool worth found c.steps_of-self-inside.ensures.steps)

pub returns-clause-rows : goal.returns-clause-rows
returns-clause-rows c =
    let job = c.args.job.now in
    let inside = c.self.inside in
    let pool = c.start_worth-worth.new.pool in
    let worth = c.start_worth-worth.result in
    let table : inside.table.job ≡ job = ap (λ (s : SearchData). s.job) c.self.view_is ∙ sym c.requires.job in
    let fresh = c.self.invariant.fresh (ap (λ (s : SearchData). s.outcome) c.self.view_is ∙ c.requires.fresh) in
    let found = found_in job inside.table.job inside.budget inside.pool pool worth table (ap (λ (s : SearchData). s.pool) fresh) c.start_worth-worth.ensures.found in
    within_budget job (24 * stage_count job) inside.budget pool c.len-rows.ensures.pool worth found
