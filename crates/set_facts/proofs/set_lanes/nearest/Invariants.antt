use Rattle.std.proofs.Common.{◌≡◌, false, filter}
use Rattle.std.specs.Prelude.{slice_index_or}
use Rattle.std.specs.List.{range_with_len}
use Rattle.handling_cost.specs.Nearest.{nearest_of_some}
use Rattle.set_facts.proofs.set_lanes.nearest.Given as goal

abbrev pub invariant-loop-stage : goal.invariant-loop-stage
invariant-loop-stage l = l.nearest ≡ nearest_of_some l.from (filter (λ stage. slice_index_or l.marked stage false) (range_with_len 0 l.stage))
