use Rattle.stage_lanes.proofs.SetLemmas.{stages_are}
use Rattle.stage_lanes.proofs.actions.ActionSet.stages_at.Goals as goal

pub returns : goal.returns
returns c = record { stages = rw c.from.ensures (stages_are c.args.self c.args.side) }
