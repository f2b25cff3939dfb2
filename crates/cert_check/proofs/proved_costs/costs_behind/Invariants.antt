use Rattle.std.proofs.Common.{◌≤◌}
use Rattle.cert_check.specs.ProvedCosts.{AreProvedBelow}
use Rattle.cert_check.proofs.proved_costs.costs_behind.Given as goal

abbrev pub invariant-loop-bend : goal.invariant-loop-bend
invariant-loop-bend l = record {
  first : 1 ≤ l.bend;
  below : AreProvedBelow l.job l.rows.rows l.mask l.bend l.costs;
}
