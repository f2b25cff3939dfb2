use Rattle.std.proofs.Common.{rules}
use Rattle.stage_lanes.proofs.SetLemmas.{with_place}
use Rattle.stage_lanes.proofs.actions.ActionSet.with.Goals as goal

pub returns : goal.returns
returns c = record { places = rw (← c.place-place.ensures.value, c.from-word.ensures) (with_place c.args.self c.place-place.result (search rules) c.place-place.ensures.below) }
