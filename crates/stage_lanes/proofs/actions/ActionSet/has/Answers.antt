use Rattle.stage_lanes.proofs.SetLemmas.{contains_is}
use Rattle.stage_lanes.proofs.actions.ActionSet.has.Goals as goal

pub returns : goal.returns
returns c = rw c.from.ensures (contains_is c.args.self c.args.place)
