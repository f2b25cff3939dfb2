use Rattle.std.proofs.Common.{ap, arith}
use Rattle.job_setup.specs.Setup.{SetupData}
use Rattle.handling_cost.proofs.Small.{prices}
use Rattle.cert_merge.proofs.set_worths.stroke_cost.Goals as goal

pub returns-clause-value : goal.returns-clause-value
returns-clause-value c = ap (λ (s : SetupData). s.cost.stroke) c.setup.ensures.value

pub returns-clause-small : goal.returns-clause-small
returns-clause-small c =
    let value = ap (λ (s : SetupData). s.cost.stroke) c.setup.ensures.value in
    let small = (prices c.args.job.now.setup.cost c.setup.ensures.valid.setup.rules.cost).stroke in
    omega (arith, value, small)
