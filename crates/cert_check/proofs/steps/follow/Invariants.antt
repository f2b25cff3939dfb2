-- The cost so far, and the steps left, are those of all steps.
use Rattle.std.proofs.Common.{◌≡◌, ◌+◌, ◌*◌, ◌≤◌, drop}
use Rattle.handling_cost.specs.StepCost.{IsKeyOf}
use Rattle.handling_cost.specs.Plan.{start, total}
use Rattle.cert_check.proofs.StepLemmas.{Leads}
use Rattle.cert_check.proofs.steps.follow.Given as goal

abbrev pub invariant-loop-index : goal.invariant-loop-index
invariant-loop-index l = record {
  leads : Leads l.job start l.steps l.index l.key;
  range : IsKeyOf l.job l.key;
  cost : l.cost + total l.job l.key (drop l.index l.steps) ≡ total l.job start l.steps;
  small : l.cost ≤ l.index * 8000000;
}
