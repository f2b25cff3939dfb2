use Rattle.cert_merge.specs.Settling.{proved_over}
use Rattle.cert_merge.proofs.SettledWorths.{set_settled}
use Rattle.cert_merge.proofs.settled_sets.settle_set.Goals as goal

pub returns-clause-set : goal.returns-clause-set
returns-clause-set c =
    set_settled c.args.job.now (proved_over c.args.job.now c.args.base.now c.args.settled.now) c.args.mask (record { reasons = c.first_reasons-reasons.result; worths = c.set_worths-worths.result }) c.next_keys-nexts.result
    c.first_reasons-reasons.ensures.reasons c.next_keys-nexts.ensures.next c.set_worths-worths.ensures
