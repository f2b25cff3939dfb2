use Rattle.set_facts.proofs.LaneTables.{HasWaysBelow}
use Rattle.set_facts.proofs.lane_facts.ways_of.Given as goal

abbrev pub invariant-loop-from : goal.invariant-loop-from
invariant-loop-from l = HasWaysBelow l.job l.from l.ways
