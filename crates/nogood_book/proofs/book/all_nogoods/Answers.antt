use Rattle.std.proofs.Common.{◌≡◌, ◌∙◌, ◌-◌, ◌^◌, ◌≤◌, sym, arith}
use Rattle.std.proofs.Math.Pow.{pow_mono}
use Rattle.nogood_book.proofs.Growth.{book_next, book_whole}
use Rattle.nogood_book.proofs.book.all_nogoods.Goals as goal

pub loop-mask-preserved : goal.loop-mask-preserved
loop-mask-preserved c = record {
  strokes = c.loop-mask.invariant.strokes ∙ sym c.in_ok-grow_at.ensures.job;
  list = book_next c.args.job.now c.loop-mask.mask c.loop-mask.nogoods.items c.grow_at.new.nogoods.items c.loop-mask.invariant.list c.in_ok-grow_at.ensures.list;
  actions = c.in_ok-grow_at.ensures.actions;
}

pub returns : goal.returns
returns c =
    let most : 2 ^ c.bends.result ≤ 2 ^ 12 = pow_mono c.bends.ensures.few in
    let last : c.loop-mask.mask ≡ 2 ^ c.bends.result - 1 = omega (arith, most, c.loop-mask-test.false, c.loop-mask.auto.mask-end) in
    book_whole c.args.job.now c.bends.result c.loop-mask.mask c.loop-mask.nogoods.items c.bends.ensures.value last c.loop-mask.invariant.list
