use Rattle.std.proofs.Common.{◌≡◌, ◌+◌, ◌*◌, ◌≤◌, ℕ, length}
use Rattle.brake_base.specs.declared.stroke.Worth.TheVariants.{Cost}
use Rattle.job_setup.specs.Setup.{shape_of}
use Rattle.handling_cost.specs.StepCost.{IsKeyOf, left}
use Rattle.bb_search.specs.Settling.{IsKnown}
use Rattle.bb_search.proofs.PlanLemmas.{IsPrefix}
use Rattle.bb_search.proofs.plan.kept_plan.Given as goal

abbrev pub invariant-loop-key : goal.invariant-loop-key
invariant-loop-key l = record {
  in_range : IsKeyOf l.job l.key;
  known : IsKnown l.job l.pool.rows l.key (Cost l.worth);
  prefix : (spent : ℕ) × (spent + l.worth ≡ l.cost) × IsPrefix l.job l.steps.items l.key spent;
  table : l.table ≡ l.fn.table;
  shape : l.state.shape ≡ shape_of l.job;
  mask : l.state.mask ≡ l.key.mask;
  few : length l.steps.items + left l.job l.key ≤ 12;
  room : 13 * left l.job l.key ≤ l.trail.room;
  all : l.trail.room + length l.trail.items ≡ 156;
}

abbrev pub decreases-loop-key : goal.decreases-loop-key
decreases-loop-key l = left l.job l.key
