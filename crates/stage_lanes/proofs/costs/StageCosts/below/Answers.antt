use Rattle.std.proofs.Common.{rules, w32, nat_lt}
use Rattle.stage_lanes.proofs.StageLemmas.{compared_stages, bits_fit}
use Rattle.stage_lanes.proofs.costs.StageCosts.below.Goals as goal

pub overflow_cast-result : goal.overflow_cast-result
overflow_cast-result c = rw c.lanes.ensures (record { fits = bits_fit w32 nat_lt c.args.self.0 c.args.cost (search rules) })

pub returns : goal.returns
returns c = record { stages = rw c.lanes.ensures (compared_stages w32 nat_lt c.args.self.0 c.args.cost (search rules)) }
