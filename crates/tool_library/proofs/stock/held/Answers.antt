use Rattle.std.proofs.Common.{◌∙◌, ap, arith, pos}
use Rattle.std.specs.Prelude.{sum_by}
use Rattle.std.proofs.lemmas.List.{take_all}
use Rattle.std.proofs.lemmas.List.Sums.{sum_by_more}
use Rattle.tool_library.specs.Stock.{section_count}
use Rattle.tool_library.proofs.stock.held.Goals as goal

pub loop-section-preserved : goal.loop-section-preserved
loop-section-preserved c =
    let more = sum_by_more (section_count c.args.piece.now) c.args.sections.now c.loop-section.section-index (pos 0, 0) c.loop-section-test.true in
    (omega (arith, more, c.section_count-held.ensures.value, c.loop-section.invariant.0), omega arith)

pub returns : goal.returns
returns c = c.loop-section.invariant.0 ∙ ap (sum_by (section_count c.args.piece.now)) (take_all c.loop-section.section-index c.args.sections.now c.loop-section-test.false)
