use Rattle.std.proofs.Common.{rules, ◌≡◌, Option, List, ℕ, ◌∙◌, ap}
use Rattle.std.specs.Prelude.{vec_capacity}
use Rattle.bb_search.specs.KnownSets.{known_by}
use Rattle.bb_search.proofs.SetPlaces.{nothing_by, places_opened}
use Rattle.bb_search.proofs.known_sets.KnownSets.open.Goals as goal

pub invariant_of-result : goal.invariant_of-result
invariant_of-result c =
    let room : vec_capacity c.in_ok-met.met ≡ c.args.sets = search rules in
    rw (c.in_ok-places.ensures, c.in_ok-met.ensures.items)
    (places_opened c.args.sets (vec_capacity c.in_ok-met.met) c.requires.few room)

pub returns : goal.returns
returns c = (
  c.none.result,
  c.none.ensures,
  ap (λ (places : List (Option ℕ)). known_by c.none.result c.in_ok-met.met.items places) c.in_ok-places.ensures
      ∙ nothing_by c.args.sets c.none.result c.in_ok-met.met.items,
)
