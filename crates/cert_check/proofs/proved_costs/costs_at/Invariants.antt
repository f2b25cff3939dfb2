use Rattle.cert_check.specs.ProvedCosts.{AreProvedLanes}
use Rattle.cert_check.proofs.proved_costs.costs_at.Given as goal

abbrev pub invariant-loop-stage : goal.invariant-loop-stage
invariant-loop-stage l = AreProvedLanes l.job l.rows.rows l.mask l.attitude l.stage l.costs.0
