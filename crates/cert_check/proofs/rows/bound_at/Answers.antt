use Rattle.std.proofs.Common.{◌∙◌, arith}
use Rattle.handling_cost.proofs.Small.{bound_small}
use Rattle.cert_check.proofs.ProvedLemmas.{bound_lane, bound_held}
use Rattle.cert_check.proofs.rows.bound_at.Goals as goal

pub cost-requires : goal.cost-requires
cost-requires c = let few = c.recall_valid.ensures.setup.stages.few_stages in let stage = c.requires.key.stage in omega (arith, few, stage)

pub returns-clause-value : goal.returns-clause-value
returns-clause-value c =
    let job = c.args.job.now in
    let key = c.args.key.now in
    let few = c.recall_valid.ensures.setup.stages.few_stages in
    c.from.ensures
    ∙ (c.cost.ensures
    ∙ (bound_lane job c.args.facts.now key.mask key.stage c.bounds-bounds.result.0 c.requires.facts c.bounds-bounds.ensures.lanes c.requires.key.stage (omega (arith, few))
    ∙ bound_held job key.mask key.attitude key.stage))

pub returns-clause-small : goal.returns-clause-small
returns-clause-small c =
    let small = bound_small c.args.job.now c.recall_valid.ensures c.args.key.now c.requires.key in
    let value = returns-clause-value c in
    omega (arith, small, value)
