use Rattle.std.proofs.Common.{rules}
use Rattle.stage_lanes.proofs.StageLemmas.{only_lanes}
use Rattle.stage_lanes.proofs.costs.StageCosts.only.Goals as goal

pub returns : goal.returns
returns c = record { lanes = rw (c.lanes.ensures, c.lanes-2.ensures) (only_lanes c.args.stages c.from.result c.args.self.0 c.args.others.0 c.from.ensures (search rules) (search rules)) }
