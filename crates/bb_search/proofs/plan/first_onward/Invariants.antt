use Rattle.std.proofs.Common.{◌≡◌, ◌<◌, ℕ, get_or}
use Rattle.brake_base.specs.declared.stroke.Step.{Step}
use Rattle.bb_search.specs.Onward.{IsOnward}
use Rattle.bb_search.specs.Orders.{order_of}
use Rattle.bb_search.proofs.plan.first_onward.Given as goal

abbrev pub invariant-loop-order : goal.invariant-loop-order
invariant-loop-order l = record {
  none : (k d : ℕ) → k < l.order-index → (step : Step) (rest : ℕ) → order_of l.job l.key step.action ≡ get_or l.orders k d → IsOnward l.job l.pool.rows l.key l.worth step rest → ⊥;
  table : l.table ≡ l.fn.table;
}
