use Rattle.std.proofs.Common.{◌+◌}
use Rattle.part_file.specs.Part.{part_data}
use Rattle.part_file.proofs.Walks.{IsHalfway}
use Rattle.part_file.proofs.tree.path.Given as goal

abbrev pub invariant-loop-from : goal.invariant-loop-from
invariant-loop-from l = IsHalfway (part_data l.part).faces l.fn.a l.fn.b l.from l.to l.inward.items l.onward.items

abbrev pub decreases-loop-from : goal.decreases-loop-from
decreases-loop-from l = l.from + l.to
