use Rattle.std.proofs.Common.{ℕ, Option, sym, subst}
use Rattle.std.specs.Prelude.{IfSome, IfNone}
use Rattle.row_pool.specs.Order.{IsNextRow, HasNoNext}
use Rattle.row_pool.proofs.NextRowLemmas.{found_so, none_so, placed_by, first_row, no_first}
use Rattle.row_pool.proofs.pool.RowPool.next_in_order.Goals as goal

pub returns-in-None-clause-some : goal.returns-in-None-clause-some
returns-in-None-clause-some c =
    let p = c.self.inside in
    let pool = c.args.self.now in
    let placed = placed_by c.self.invariant pool c.self.view_is c.requires.placed in
    subst (λ (row : Option ℕ). IfSome c.first_of.result (IsNextRow pool row)) (sym c.in-None.is)
    (found_so c.first_of.result (first_row pool p.index placed) c.first_of.ensures.some)

pub returns-in-None-clause-none : goal.returns-in-None-clause-none
returns-in-None-clause-none c =
    let p = c.self.inside in
    let pool = c.args.self.now in
    let placed = placed_by c.self.invariant pool c.self.view_is c.requires.placed in
    subst (λ (row : Option ℕ). IfNone c.first_of.result (HasNoNext pool row)) (sym c.in-None.is)
    (none_so c.first_of.result (no_first pool p.index placed) c.first_of.ensures.none)
