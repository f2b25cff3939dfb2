use Rattle.stage_lanes.proofs.StageLemmas.{both_are}
use Rattle.stage_lanes.proofs.stages.StageSet.intersection.Goals as goal

pub returns : goal.returns
returns c = record { stages = both_are c.args.self c.args.other }
