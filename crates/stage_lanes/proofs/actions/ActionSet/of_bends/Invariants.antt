use Rattle.std.proofs.Common.{◌≤◌}
use Rattle.stage_lanes.proofs.BendLemmas.{HasBelow}
use Rattle.stage_lanes.proofs.actions.ActionSet.of_bends.Given as goal

abbrev pub invariant-loop-bend : goal.invariant-loop-bend
invariant-loop-bend l = record { below : HasBelow l.bends l.stages l.bend l.set; first : 1 ≤ l.bend }
