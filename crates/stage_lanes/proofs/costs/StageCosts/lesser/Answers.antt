use Rattle.std.proofs.Common.{rules, w32}
use Rattle.stage_lanes.proofs.LaneLemmas.{lesser_lanes}
use Rattle.stage_lanes.proofs.costs.StageCosts.lesser.Goals as goal

pub returns : goal.returns
returns c = record { lanes = rw (c.lanes.ensures, c.lanes-2.ensures) (lesser_lanes w32 c.args.self.0 c.args.other.0 (search rules) (search rules)) }
