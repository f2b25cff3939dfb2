use Rattle.std.proofs.Common.{ℕ, ◌+◌, subst}
use Rattle.row_pool.specs.Rows.{keys}
use Rattle.row_pool.specs.Index.{HasNoRow, IsFirstIn}
use Rattle.row_pool.proofs.OrderLemmas.{key_has}
use Rattle.row_pool.proofs.NextRowLemmas.{found_so, none_so, placed_by, key_by, next_in, next_of, no_next}
use Rattle.row_pool.proofs.pool.RowPool.next_after.Goals as goal

-- the row's key has a place
pub returns-in_err-place-clause-none : goal.returns-in_err-place-clause-none
returns-in_err-place-clause-none c =
    let p = c.self.inside in
    let pool = c.args.self.now in
    let d = c.index.result.now in
    let placed = placed_by c.self.invariant pool c.self.view_is c.requires.placed in
    let own = key_by c.self.invariant pool c.self.view_is c.args.row d c.requires.row c.index.ensures in
    absurd (c.in_err-place.ensures.none (key_has p.index (keys pool) placed c.args.row d.key own))

-- the next row is of the same set
pub returns-in-Some-clause-some : goal.returns-in-Some-clause-some
returns-in-Some-clause-some c =
    let p = c.self.inside in
    let pool = c.args.self.now in
    let d = c.index.result.now in
    let placed = placed_by c.self.invariant pool c.self.view_is c.requires.placed in
    let own = key_by c.self.invariant pool c.self.view_is c.args.row d c.requires.row c.index.ensures in
    let first = subst (λ (n : ℕ). IsFirstIn p.index d.key.mask.0 (n + 1) c.in-Some.next) c.in_ok-place.ensures.some.is c.in-Some.ensures.some in
    next_in pool p.index placed c.args.row d.key own c.in-Some.next first

-- it is of a later set
pub returns-in-None-clause-some : goal.returns-in-None-clause-some
returns-in-None-clause-some c =
    let p = c.self.inside in
    let pool = c.args.self.now in
    let d = c.index.result.now in
    let placed = placed_by c.self.invariant pool c.self.view_is c.requires.placed in
    let own = key_by c.self.invariant pool c.self.view_is c.args.row d c.requires.row c.index.ensures in
    let none = subst (λ (n : ℕ). HasNoRow p.index d.key.mask.0 (n + 1) p.index.places) c.in_ok-place.ensures.some.is c.in-None.ensures.none in
    found_so c.first_of.result (next_of pool p.index placed c.args.row d.key own none) c.first_of.ensures.some

pub returns-in-None-clause-none : goal.returns-in-None-clause-none
returns-in-None-clause-none c =
    let p = c.self.inside in
    let pool = c.args.self.now in
    let d = c.index.result.now in
    let placed = placed_by c.self.invariant pool c.self.view_is c.requires.placed in
    let own = key_by c.self.invariant pool c.self.view_is c.args.row d c.requires.row c.index.ensures in
    let none = subst (λ (n : ℕ). HasNoRow p.index d.key.mask.0 (n + 1) p.index.places) c.in_ok-place.ensures.some.is c.in-None.ensures.none in
    none_so c.first_of.result (no_next pool p.index placed c.args.row d.key own none) c.first_of.ensures.none
