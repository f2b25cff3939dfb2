use Rattle.std.proofs.Common.{◌∙◌, ap, arith, pos}
use Rattle.std.specs.Prelude.{sum_by}
use Rattle.std.proofs.lemmas.List.{take_all}
use Rattle.std.proofs.lemmas.List.Sums.{sum_by_more}
use Rattle.piece_pick.specs.Stock.{section_length}
use Rattle.piece_pick.proofs.stock_length.stock_length.Goals as goal

pub loop-section-preserved : goal.loop-section-preserved
loop-section-preserved c =
    let more = sum_by_more section_length c.args.sections.now c.loop-section.section-index (pos 0, 0) c.loop-section-test.true in
    (omega (arith, more, c.section_length-total.ensures.value, c.loop-section.invariant.0), omega arith)

pub returns : goal.returns
returns c = c.loop-section.invariant.0 ∙ ap (sum_by section_length) (take_all c.loop-section.section-index c.args.sections.now c.loop-section-test.false)
