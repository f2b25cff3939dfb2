use Rattle.std.proofs.Common.{◌≡◌, ◌∙◌, ◌<◌, ℕ, length, length-set, ap, arith}
use Rattle.handling_cost.specs.StepCost.{change, change_cost}
use Rattle.set_facts.proofs.LaneTables.{set_more}
use Rattle.set_facts.proofs.lane_facts.changes_from.Goals as goal

pub loop-to-preserved : goal.loop-to-preserved
loop-to-preserved c =
    let costs = c.args.costs.now in
    let price : ℕ → ℕ = λ to. change_cost costs (change c.args.from to) in
    let inside : c.loop-to.to < length c.loop-to.changes = omega (arith, c.loop-to.invariant.count, c.loop-to-test.true) in
    let value : c.change_cost.result ≡ price c.loop-to.to = c.change_cost.ensures ∙ ap price c.from_number.ensures in
    record {
      count = length-set c.loop-to.changes c.from.result c.change_cost.result ∙ c.loop-to.invariant.count;
      each = λ to d below. rw c.from.ensures (set_more price c.loop-to.changes c.loop-to.to c.change_cost.result d inside value (λ k low. c.loop-to.invariant.each k d low) to below);
    }

pub returns : goal.returns
returns c = λ to d below. c.loop-to.invariant.each to d (omega (arith, below, c.loop-to-test.false))
