use Rattle.std.proofs.Common.{◌∙◌, ℕ, ap}
use Rattle.handling_cost.specs.StepCost.{change, change_cost}
use Rattle.set_facts.proofs.LaneTables.{HasChanges, changes_more, changes_all}
use Rattle.set_facts.proofs.lane_facts.put_changes.Goals as goal

pub loop-from-preserved : goal.loop-from-preserved
loop-from-preserved c =
    let costs = c.args.costs.now in
    let from = c.loop-from.from in
    let row = c.changes_from.result in
    let is : HasChanges costs from row = λ to d low. c.changes_from.ensures to d low ∙ ap (λ (n : ℕ). change_cost costs (change n to)) c.from_number.ensures in
    rw c.from.ensures (changes_more costs from c.loop-from.changes.items row c.loop-from-test.true is c.loop-from.invariant)

pub returns : goal.returns
returns c = changes_all c.args.costs.now c.loop-from.from c.loop-from.changes.items c.loop-from-test.false c.loop-from.invariant
