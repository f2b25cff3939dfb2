use Rattle.std.proofs.Common.{◌<◌, ◌∙◌, ℕ, subst, arith}
use Rattle.job_setup.specs.Setup.{JobData}
use Rattle.job_setup.specs.ValidJob.{IsJob}
use Rattle.handling_cost.specs.StepCost.{change}
use Rattle.handling_cost.proofs.Small.{change_small}
use Rattle.set_facts.proofs.LaneTables.{change_at}
use Rattle.set_facts.proofs.lane_facts.LaneFacts.change.Goals as goal

pub returns : goal.returns
returns c =
    let now = c.args.self.now in
    let low : c.args.from < 24 = subst (λ (n : ℕ). n < 24) c.number.ensures.value c.number.ensures.below in
    let high : c.args.to < 24 = subst (λ (n : ℕ). n < 24) c.number-2.ensures.value c.number-2.ensures.below in
    let value = change_at c.self.inside.job now c.self.inside.changes.items c.index.result.now c.args.from c.args.to c.from.result c.from-2.result
    c.self.view_is c.self.invariant.changes low high (c.from.ensures ∙ c.number.ensures.value) (c.from-2.ensures ∙ c.number-2.ensures.value) c.index.ensures in
    let valid : IsJob now = subst (λ (j : JobData). IsJob j) c.self.view_is c.self.invariant.valid in
    let small = change_small now.setup.cost valid.setup.rules.cost (change c.args.from c.args.to) in
    record { value = value; small = omega (arith, value, small) }
