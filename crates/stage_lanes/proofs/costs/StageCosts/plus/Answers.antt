use Rattle.std.proofs.Common.{rules}
use Rattle.stage_lanes.proofs.LaneLemmas.{sums_fit}
use Rattle.stage_lanes.proofs.costs.StageCosts.plus.Goals as goal

pub overflow_add-result : goal.overflow_add-result
overflow_add-result c = rw (c.lanes.ensures, c.lanes-2.ensures) (sums_fit c.args.self.0 c.args.other.0 (search rules) (search rules) c.requires.room)
