use Rattle.stage_lanes.proofs.StageLemmas.{first_are, shifted_one}
use Rattle.stage_lanes.proofs.stages.StageSet.first.Goals as goal

pub returns : goal.returns
returns c = record { stages = rw (shifted_one c.args.count c.requires) (first_are c.args.count) }
