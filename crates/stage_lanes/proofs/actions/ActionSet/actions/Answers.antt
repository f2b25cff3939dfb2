use Rattle.std.proofs.Common.{◌≡◌, arith, filter, ◌∙◌, ap}
use Rattle.stage_lanes.specs.ActionSets.{has_place, numbers_below, places_of}
use Rattle.stage_lanes.proofs.actions.ActionSet.actions.Goals as goal

pub returns-clause-places : goal.returns-clause-places
unfolding places_of
returns-clause-places c =
    let past : c.loop-place.place ≡ 192 = omega (arith, c.loop-place.auto.place-end, c.loop-place-test.false) in
    c.loop-place.invariant.places ∙ ap (λ n. filter (has_place c.args.self) (numbers_below n)) past
