use Rattle.std.proofs.Common.{◌<◌, ℕ, List, length, Option, sym, ap, ◌∙◌, subst, arith}
use Rattle.std.proofs.lemmas.List.{length-append}
use Rattle.bb_search.specs.WrittenRows.{GoesOnTo}
use Rattle.bb_search.proofs.NextRows.{left_from, less_left}
use Rattle.bb_search.proofs.GoingOn.{starts, goes_on}
use Rattle.bb_search.proofs.pieces.put_rows.Goals as goal

pub loop-next-init : goal.loop-next-init
loop-next-init c = record {
  begun = omega arith;
  writer = c.requires.goes_on.writer;
  rows = starts c.args.pool.now c.args.stages c.args.from c.args.out.now.items c.requires.goes_on.within;
}

pub overflow_sub-len : goal.overflow_sub-len
overflow_sub-len c =
    let whole = ap (λ (t : List ℕ). length t) c.loop-next.invariant.rows.text ∙ length-append c.args.out.now.items c.loop-next.invariant.rows.piece in
    omega (arith, whole, c.loop-next.invariant.begun)

pub put_row-requires-clause-row : goal.put_row-requires-clause-row
put_row-requires-clause-row c =
    (subst (λ (next : Option ℕ). GoesOnTo c.args.pool.now c.args.stages c.args.from next c.args.out.now.items c.loop-next.out.items) c.in-Some.is c.loop-next.invariant.rows).in_range

pub put_row-requires-clause-writer : goal.put_row-requires-clause-writer
put_row-requires-clause-writer c = c.loop-next.invariant.writer

pub next_in_order-next-requires-clause-row : goal.next_in_order-next-requires-clause-row
next_in_order-next-requires-clause-row c =
    (subst (λ (next : Option ℕ). GoesOnTo c.args.pool.now c.args.stages c.args.from next c.args.out.now.items c.loop-next.out.items) c.in-Some.is c.loop-next.invariant.rows).in_range

pub loop-next-preserved : goal.loop-next-preserved
loop-next-preserved c =
    let pool = c.args.pool.now in
    let found = c.next_in_order-next in
    let before = subst (λ (next : Option ℕ). GoesOnTo pool c.args.stages c.args.from next c.args.out.now.items c.loop-next.out.items) c.in-Some.is c.loop-next.invariant.rows in
    record {
      begun = c.loop-next.invariant.begun;
      writer = c.put_row.ensures.writer;
      rows = goes_on pool c.requires.goes_on.is_pool c.args.stages c.requires.goes_on.writable c.requires.goes_on.few_rows c.args.from c.in-Some.row found.result c.args.out.now.items c.loop-next.out.items c.put_row.new.out.items
          before.in_range before c.in_ok-put_row.ensures.text found.ensures.some found.ensures.none;
    }

pub loop-next-smaller : goal.loop-next-smaller
loop-next-smaller c =
    let pool = c.args.pool.now in
    let found = c.next_in_order-next in
    let before = subst (λ (next : Option ℕ). GoesOnTo pool c.args.stages c.args.from next c.args.out.now.items c.loop-next.out.items) c.in-Some.is c.loop-next.invariant.rows in
    subst (λ (next : Option ℕ). left_from pool found.result < left_from pool next) (sym c.in-Some.is)
    (less_left pool c.requires.goes_on.is_pool c.args.stages c.requires.goes_on.writable c.in-Some.row before.in_range found.result found.ensures.some)

pub returns-in_default-clause-writer : goal.returns-in_default-clause-writer
returns-in_default-clause-writer c = c.loop-next.invariant.writer

pub returns-in_default-clause-rows : goal.returns-in_default-clause-rows
returns-in_default-clause-rows c =
    subst (λ (next : Option ℕ). GoesOnTo c.args.pool.now c.args.stages c.args.from next c.args.out.now.items c.loop-next.out.items) c.in_default.is c.loop-next.invariant.rows

pub returns-clause-writer : goal.returns-clause-writer
returns-clause-writer c = c.loop-next.invariant.writer

pub returns-clause-rows : goal.returns-clause-rows
returns-clause-rows c = c.loop-next.invariant.rows
