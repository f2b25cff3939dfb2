use Rattle.std.proofs.Common.{◌∙◌}
use Rattle.std.specs.Prelude.{vec_capacity}
use Rattle.bb_search.specs.KnownActions.{IsLearnt}
use Rattle.bb_search.proofs.SetPlaces.{known_changes}
use Rattle.bb_search.proofs.known_sets.KnownSets.learn.Goals as goal

pub returns : goal.returns
returns c =
    let sets = c.meet-place.new in
    known_changes sets.places.items sets.met.items (vec_capacity sets.met) c.meet-place.ensures.places
    c.self.inside.nothing c.from-set.result c.meet-place.result c.meet-place.ensures.place c.learn.new.self (IsLearnt c.args.action c.args.slack) c.args.self.now c.args.mask.0
    c.index_mut-known.result.now c.from-set.ensures (c.meet-place.ensures.same ∙ c.self.view_is) c.index_mut-known.ensures.value c.learn.ensures
