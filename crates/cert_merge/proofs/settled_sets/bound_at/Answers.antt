use Rattle.std.proofs.Common.{◌∙◌, sym, subst, ap, arith}
use Rattle.std.specs.Prelude.{Bool, if◌then◌else◌}
use Rattle.std.proofs.lemmas.Bool.{lt-ltb}
use Rattle.job_setup.specs.Setup.{JobData, stage_count}
use Rattle.handling_cost.specs.Bound.{bound_of}
use Rattle.set_facts.specs.LaneFacts.{HasBounds}
use Rattle.plan_cert.proofs.RowOrder.{few_stages}
use Rattle.cert_merge.proofs.settled_sets.bound_at.Goals as goal

pub cost-requires : goal.cost-requires
cost-requires c = let few = few_stages c.args.job.now c.recall_valid.ensures in let stage = c.requires.key.stage in omega (arith, few, stage)

pub returns-clause-value : goal.returns-clause-value
unfolding bound_of
returns-clause-value c =
    let job = c.args.job.now in
    let key = c.args.key.now in
    let few = few_stages job c.recall_valid.ensures in
    let stage = c.requires.key.stage in
    let lanes = subst (λ (j : JobData). HasBounds j key.mask c.bounds.result.0) (sym c.requires.facts) c.bounds.ensures.lanes in
    c.from.ensures ∙ (c.cost.ensures ∙ (lanes key.stage (omega (arith, few, stage)) ∙ ap (λ (b : Bool). if b then bound_of job key else 536870912) (lt-ltb key.stage (stage_count job) stage)))

pub returns-clause-small : goal.returns-clause-small
returns-clause-small c =
    let few = few_stages c.args.job.now c.recall_valid.ensures in
    let stage = c.requires.key.stage in
    let small = c.bounds.ensures.small c.args.key.now.stage (omega (arith, few, stage)) in
    let value = c.from.ensures in
    let cost = c.cost.ensures in
    omega (arith, small, value, cost)
