use Rattle.std.proofs.Common.{◌≡◌, ◌≤◌, ℕ, ◌<◌, get_or, length, vec_capacity}
use Rattle.sweep_check.specs.declared.surroundings.Surroundings.{Surroundings}
use Rattle.sweep_check.specs.Around.{AreSurroundings}
use Rattle.stroke_table.proofs.records.all_surroundings.Given as goal

abbrev pub invariant-loop-stage : goal.invariant-loop-stage
invariant-loop-stage l = record {
  count : length l.around.items ≡ l.stage;
  room : length l.job.setup.stages ≤ vec_capacity l.around;
  each : (k : ℕ) (other : Surroundings) → k < length l.around.items → AreSurroundings l.job (get_or l.around.items k other) × ((get_or l.around.items k other).stage ≡ k);
}
