use Rattle.std.proofs.Common.{ℕ, slice_index_or, ap, ◌∙◌}
use Rattle.brake_base.specs.Masks.{union}
use Rattle.bb_search.proofs.search_table.folded_after.Goals as goal

pub returns : goal.returns
returns c = λ job are last.
    c.union.ensures.value
    ∙ ap (λ (n : ℕ). union c.args.mask (slice_index_or c.args.groups.now n (record { 0 = 0 }))) c.from.ensures
    ∙ are c.args.bend c.requires.first last c.args.mask
