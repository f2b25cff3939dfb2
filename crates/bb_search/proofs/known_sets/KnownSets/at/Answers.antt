use Rattle.std.proofs.Common.{rules, ◌≡◌, Some, None, List, length, get_or, sym, ◌∙◌, ap}
use Rattle.std.specs.Prelude.{vec_len, slice_get}
use Rattle.bb_search.specs.declared.known.KnownActions.{KnownActions}
use Rattle.bb_search.proofs.SetPlaces.{read_at, set_within, known_read}
use Rattle.bb_search.proofs.known_sets.KnownSets.at.Goals as goal

pub index-requires-in-Some : goal.index-requires-in-Some
index-requires-in-Some c =
    let places = c.self.inside.places.items in
    let met = c.self.inside.met.items in
    let within = set_within c.self.inside.nothing met places c.args.self.now c.args.mask.0 c.self.view_is c.requires in
    let at : get_or places c.args.mask.0 None ≡ Some c.in-Some.place = read_at places c.args.mask.0 c.from.result c.index.result.now None c.from.ensures within c.index.ensures ∙ c.in-Some.is in
    let long : vec_len c.self.inside.met ≡ length met = search rules in
    rw (long, c.from-in-Some.ensures) (c.self.invariant.within c.args.mask.0 c.in-Some.place at)

pub returns-in-Some : goal.returns-in-Some
returns-in-Some c =
    let places = c.self.inside.places.items in
    let met = c.self.inside.met.items in
    let nothing = c.self.inside.nothing in
    let place = c.in-Some.place in
    let within = set_within nothing met places c.args.self.now c.args.mask.0 c.self.view_is c.requires in
    let at : get_or places c.args.mask.0 None ≡ Some place = read_at places c.args.mask.0 c.from.result c.index.result.now None c.from.ensures within c.index.ensures ∙ c.in-Some.is in
    ap (λ (all : List KnownActions). slice_get all c.args.mask.0) (sym c.self.view_is)
    ∙ (known_read nothing met places c.args.mask.0 (Some place) within at
    ∙ ap (λ (found : KnownActions). Some found)
    (read_at met place c.from-in-Some.result c.index-in-Some.result.now nothing c.from-in-Some.ensures (c.self.invariant.within c.args.mask.0 place at) c.index-in-Some.ensures))

pub returns-in-None : goal.returns-in-None
returns-in-None c =
    let places = c.self.inside.places.items in
    let met = c.self.inside.met.items in
    let nothing = c.self.inside.nothing in
    let within = set_within nothing met places c.args.self.now c.args.mask.0 c.self.view_is c.requires in
    let at : get_or places c.args.mask.0 None ≡ None = read_at places c.args.mask.0 c.from.result c.index.result.now None c.from.ensures within c.index.ensures ∙ c.in-None.is in
    ap (λ (all : List KnownActions). slice_get all c.args.mask.0) (sym c.self.view_is)
    ∙ known_read nothing met places c.args.mask.0 None within at
