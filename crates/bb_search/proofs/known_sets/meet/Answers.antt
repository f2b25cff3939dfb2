use Rattle.std.proofs.Common.{rules, ◌≡◌, ℕ, ◌<◌, None, length, get_or, subst, refl, sym, ◌∙◌}
use Rattle.std.specs.Prelude.{vec_len, vec_capacity}
use Rattle.bb_search.proofs.SetPlaces.{read_at, room_left, places_met, same_known}
use Rattle.bb_search.proofs.known_sets.meet.Goals as goal

pub push_reserved-requires : goal.push_reserved-requires
push_reserved-requires c =
    let places = c.args.places.now.items in
    let met = c.args.met.now.items in
    let limit = vec_capacity c.args.met.now in
    let none : get_or places c.args.set None ≡ None = read_at places c.args.set c.args.set c.index.result.now None refl c.requires.set c.index.ensures ∙ c.in-None.is in
    let long : vec_len c.args.met.now ≡ length met = search rules in
    subst (λ (n : ℕ). n < limit) (sym long) (room_left places met limit c.requires.places c.args.set c.requires.set none)

pub returns-in-None-clause-places : goal.returns-in-None-clause-places
returns-in-None-clause-places c =
    let places = c.args.places.now.items in
    let met = c.args.met.now.items in
    let limit = vec_capacity c.args.met.now in
    let none : get_or places c.args.set None ≡ None = read_at places c.args.set c.args.set c.index.result.now None refl c.requires.set c.index.ensures ∙ c.in-None.is in
    let long : c.len-place.result ≡ length met = search rules in
    rw (c.push_reserved.ensures.items, c.push_reserved.ensures.capacity, long)
    (places_met places met limit c.requires.places c.args.nothing.now c.args.set c.requires.set none)

pub returns-in-None-clause-same : goal.returns-in-None-clause-same
returns-in-None-clause-same c =
    let places = c.args.places.now.items in
    let met = c.args.met.now.items in
    let limit = vec_capacity c.args.met.now in
    let none : get_or places c.args.set None ≡ None = read_at places c.args.set c.args.set c.index.result.now None refl c.requires.set c.index.ensures ∙ c.in-None.is in
    let long : c.len-place.result ≡ length met = search rules in
    rw (c.push_reserved.ensures.items, long)
    (same_known places met limit c.requires.places c.args.nothing.now c.args.set c.requires.set none)
