use Rattle.std.proofs.Common.{◌≤◌}
use Rattle.cert_check.specs.ClosingCosts.{ClosesBelow, IsSmall}
use Rattle.cert_check.proofs.closing_costs.closing_costs.Given as goal

abbrev pub invariant-loop-bend : goal.invariant-loop-bend
invariant-loop-bend l = record {
  first : 1 ≤ l.bend;
  below : ClosesBelow l.job l.proved l.rows.noted l.rows.attitude l.bend l.least.0;
  small : IsSmall l.least.0;
}
