use Rattle.set_facts.proofs.LaneTables.{HasChangesBelow}
use Rattle.set_facts.proofs.lane_facts.put_changes.Given as goal

abbrev pub invariant-loop-from : goal.invariant-loop-from
invariant-loop-from l = HasChangesBelow l.costs l.from l.changes.items
