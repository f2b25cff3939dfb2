use Rattle.stage_lanes.proofs.StageLemmas.{contains_is}
use Rattle.stage_lanes.proofs.stages.StageSet.contains.Goals as goal

pub returns : goal.returns
returns c = contains_is c.args.self c.args.stage
