use Rattle.handling_cost.specs.Plan.{IsReasonFor}
use Rattle.cert_check.proofs.check_table.CheckTable.holds.Goals as goal

pub returns-clause-holds : goal.returns-clause-holds
unfolding IsReasonFor
returns-clause-holds c = c.holds.ensures.holds
