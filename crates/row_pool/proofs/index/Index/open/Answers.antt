use Rattle.std.proofs.Common.{rules, ◌≡◌, ℕ, ◌*◌, List, ◌++◌, replicate, ◌∙◌, ap}
use Rattle.std.specs.Prelude.{vec_capacity}
use Rattle.row_pool.proofs.IndexLemmas.{index_empty, indexed_empty}
use Rattle.row_pool.proofs.index.Index.open.Goals as goal

pub invariant_of-result : goal.invariant_of-result
invariant_of-result c =
    let room : vec_capacity c.in_ok-ends.ends ≡ 4097 * c.args.places = search rules in
    let first = c.push_zeros.ensures.zeros ∙ ap (λ (xs : List ℕ). xs ++ replicate c.args.places 0) c.in_ok-ends.ensures.items in
    rw c.in_ok-starts.ensures
    (index_empty c.push_zeros.new.ends.items c.args.places (vec_capacity c.push_zeros.new.ends) first c.requires.few c.requires.whole (c.push_zeros.ensures.same_memory ∙ room))

pub returns-clause-empty : goal.returns-clause-empty
returns-clause-empty c =
    let first = c.push_zeros.ensures.zeros ∙ ap (λ (xs : List ℕ). xs ++ replicate c.args.places 0) c.in_ok-ends.ensures.items in
    indexed_empty (record { starts = c.in_ok-starts.starts.items; ends = c.push_zeros.new.ends.items; places = c.args.places }) c.in_ok-starts.ensures first
