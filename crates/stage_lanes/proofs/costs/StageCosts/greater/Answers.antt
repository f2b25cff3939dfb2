use Rattle.std.proofs.Common.{rules, w32}
use Rattle.stage_lanes.proofs.LaneLemmas.{greater_lanes}
use Rattle.stage_lanes.proofs.costs.StageCosts.greater.Goals as goal

pub returns : goal.returns
returns c = record { lanes = rw (c.lanes.ensures, c.lanes-2.ensures) (greater_lanes w32 c.args.self.0 c.args.other.0 (search rules) (search rules)) }
