use Rattle.handling_cost.proofs.Keys.{start_in_range}
use Rattle.cert_check.proofs.rows.CheckedSet.first.Goals as goal

pub of-actions-requires-clause-mask : goal.of-actions-requires-clause-mask
of-actions-requires-clause-mask c = rw c.empty.ensures.number (start_in_range c.args.job.now c.recall_valid.ensures).mask

pub of-proved-requires-clause-mask : goal.of-proved-requires-clause-mask
of-proved-requires-clause-mask c = rw c.empty-2.ensures.number (start_in_range c.args.job.now c.recall_valid.ensures).mask

pub returns : goal.returns
returns c = record {
  set = record {
    actions = c.of-actions.ensures.actions;
    proved = c.of-proved.ensures.costs;
    closing = c.none-closing.ensures c.args.job.now c.of-proved.result;
  };
}
