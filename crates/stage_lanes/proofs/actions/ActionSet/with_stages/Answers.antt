use Rattle.std.proofs.Common.{rules}
use Rattle.stage_lanes.proofs.SetLemmas.{with_stages_places}
use Rattle.stage_lanes.proofs.actions.ActionSet.with_stages.Goals as goal

pub returns : goal.returns
returns c = record { places = rw (← c.side-side.ensures.value, c.from-word.ensures, c.from.ensures) (with_stages_places c.args.self c.args.stages c.side-side.result (search rules) (search rules) c.side-side.ensures.below) }
