use Rattle.std.proofs.Common.{arith}
use Rattle.handling_cost.proofs.Actions.{few_bends}
use Rattle.nogood_book.proofs.verifying.is_flat_lead.Goals as goal

pub contains-requires-clause-last : goal.contains-requires-clause-last
contains-requires-clause-last c =
    let few = few_bends c.args.job.now c.recall_valid.ensures in
    let at = c.is_action_at.ensures.0 c.if-is_action_at.true in
    omega (arith, few, at.last)
