use Rattle.std.proofs.Common.{◌∙◌, sym, ap, ◌*◌}
use Rattle.job_setup.specs.Setup.{SetupData}
use Rattle.handling_cost.proofs.Small.{no_way, some_way}
use Rattle.handling_cost.proofs.costs.stage_cost.Goals as goal

pub returns-then-is_empty-clause-value : goal.returns-then-is_empty-clause-value
returns-then-is_empty-clause-value c = no_way c.args.job.now c.args.key.now.mask c.args.key.now.stage c.args.stage (sym c.is_empty.ensures.number ∙ c.if-is_empty.true)

pub returns-clause-value : goal.returns-clause-value
returns-clause-value c =
    let price = ap (λ (s : SetupData). s.cost.stage) c.setup.ensures.value in
    let far = c.from.ensures ∙ c.abs_diff.ensures in
    (λ i. price i * far i) ∙ sym (some_way c.args.job.now c.args.key.now.mask c.args.key.now.stage c.args.stage (sym c.is_empty.ensures.number ∙ c.if-is_empty.false))
