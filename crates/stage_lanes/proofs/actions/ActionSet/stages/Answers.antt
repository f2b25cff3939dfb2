use Rattle.stage_lanes.proofs.actions.ActionSet.stages.Goals as goal

pub returns : goal.returns
returns c = record { stages = rw (← c.side.ensures.value) c.stages_at.ensures.stages }
