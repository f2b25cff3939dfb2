use Rattle.std.proofs.Common.{arith, ◌∙◌, ap, subst}
use Rattle.job_setup.specs.Setup.{JobData}
use Rattle.set_facts.specs.LaneFacts.{HasBounds}
use Rattle.bb_search.specs.KnownActions.{TableData}
use Rattle.bb_search.proofs.KnownLemmas.{bound_by_lane}
use Rattle.bb_search.proofs.search_table.SearchTable.bound.Goals as goal

pub cost-requires : goal.cost-requires
cost-requires c =
    let few = c.requires.valid.setup.stages.few_stages in
    let stage = c.requires.key.stage in
    omega (arith, few, stage)

pub returns : goal.returns
returns c =
    let same = c.self.invariant.1 ∙ ap (λ (t : TableData). t.job) c.self.view_is in
    c.cost.ensures
    ∙ bound_by_lane c.args.self.now.job c.requires.valid c.args.key.now c.requires.key c.bounds.result.0
    (subst (λ (j : JobData). HasBounds j c.args.key.now.mask c.bounds.result.0) same c.bounds.ensures.lanes)
