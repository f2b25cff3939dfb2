use Rattle.std.proofs.Common.{rules}
use Rattle.action_lanes.proofs.WordLemmas.{eighth_joined}
use Rattle.action_lanes.proofs.costs.with_eighth.Goals as goal

pub returns : goal.returns
returns c = record { bits = rw c.from.ensures (eighth_joined c.args.bits c.args.eighth c.args.stages (search rules) c.requires) }
