use Rattle.std.proofs.Common.{◌∙◌, ap, arith, pos}
use Rattle.std.specs.Prelude.{sum_by}
use Rattle.std.proofs.lemmas.List.{take_all}
use Rattle.std.proofs.lemmas.List.Sums.{sum_by_more}
use Rattle.piece_pick.specs.declared.want.Want.{Want}
use Rattle.piece_pick.specs.Stock.{needed_by}
use Rattle.piece_pick.proofs.stock_length.needed.Goals as goal

pub loop-want-preserved : goal.loop-want-preserved
loop-want-preserved c =
    let no_want : Want = record { punch = 0; die = 0; length = pos 0 } in
    let more = sum_by_more (needed_by c.args.tool) c.args.wants.now c.loop-want.want-index no_want c.loop-want-test.true in
    (omega (arith, more, c.needed_by-total.ensures.value, c.loop-want.invariant.0), omega arith)

pub returns : goal.returns
returns c = c.loop-want.invariant.0 ∙ ap (sum_by (needed_by c.args.tool)) (take_all c.loop-want.want-index c.args.wants.now c.loop-want-test.false)
