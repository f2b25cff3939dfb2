use Rattle.std.proofs.Common.{◌≡◌, ℕ, ◌+◌, ◌<◌, length, get_or, set, subst, sym, ◌∙◌, arith}
use Rattle.std.proofs.lemmas.List.{get_or_default}
use Rattle.std.specs.Prelude.{vec_capacity}
use Rattle.row_pool.specs.Index.{Blocks, IsIndex, IsPlaceOf, IsIndexed}
use Rattle.row_pool.proofs.IndexLemmas.{index_enter}
use Rattle.row_pool.proofs.KeyLemmas.{entered, indexed_without}
use Rattle.row_pool.proofs.index.Index.enter.Goals as goal

pub invariant_of-self : goal.invariant_of-self
invariant_of-self c =
    let starts = c.begin.new.starts.items in
    let ends = c.begin.new.ends.items in
    let places = c.self.inside.places in
    let limit = vec_capacity c.begin.new.ends in
    let key = c.args.key.now in
    let P : Blocks → Type 0 = λ x. IsPlaceOf x.places key c.in-Some.place in
    let its = subst P (sym c.self.view_is) c.in-Some.ensures.some in
    let sets = c.begin.ensures.index.sets in
    let low : key.mask.0 < length starts = let mask = its.has.mask in omega (arith, sets, mask) in
    let at : c.index-start.result.now ≡ get_or starts key.mask.0 0 = c.index-start.ensures ∙ get_or_default starts key.mask.0 c.index-start.result.now 0 low in
    let begun = c.begin.ensures.begun in
    subst (λ (n : ℕ). IsIndex starts (set ends (n + c.in-Some.place) (c.args.row + 1)) places limit) (sym at)
    (index_enter starts ends places limit c.begin.ensures.index key.mask.0 c.in-Some.place (c.args.row + 1) its.low (λ none. omega (arith, begun, none)))

pub returns-in-Some-clause-entered : goal.returns-in-Some-clause-entered
returns-in-Some-clause-entered c =
    let x = c.self.inside in
    let starts = c.begin.new.starts.items in
    let ends = c.begin.new.ends.items in
    let key = c.args.key.now in
    let old : Blocks = record { starts = x.starts.items; ends = x.ends.items; places = x.places } in
    let P : Blocks → Type 0 = λ y. IsPlaceOf y.places key c.in-Some.place in
    let its = subst P (sym c.self.view_is) c.in-Some.ensures.some in
    let sets = c.begin.ensures.index.sets in
    let low : key.mask.0 < length starts = let mask = its.has.mask in omega (arith, sets, mask) in
    let at : c.index-start.result.now ≡ get_or starts key.mask.0 0 = c.index-start.ensures ∙ get_or_default starts key.mask.0 c.index-start.result.now 0 low in
    λ keys long absent indexed.
    entered old starts ends (vec_capacity c.begin.new.ends) key c.in-Some.place c.index-start.result.now c.args.row c.begin.ensures.index at c.begin.ensures.begun its c.begin.ensures.same
    keys long absent (subst (λ (y : Blocks). IsIndexed y keys) (sym c.self.view_is) indexed)

pub returns-in_default-clause-entered : goal.returns-in_default-clause-entered
returns-in_default-clause-entered c = λ keys long absent indexed. indexed_without c.args.self.now keys indexed c.args.key.now c.in_default.ensures.none
