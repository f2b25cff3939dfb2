use Rattle.std.proofs.Common.{List, [], sym, subst, arith}
use Rattle.std.specs.Prelude.{All}
use Rattle.std.proofs.lemmas.List.Elements.{All-push}
use Rattle.unfolder.specs.declared.blank.BendLine.{BendLine}
use Rattle.job_setup.proofs.BoxByBox.{mapped_more}
use Rattle.sheet_figures.specs.Flats.{IsFlatLine}
use Rattle.sheet_figures.specs.MovedBlanks.{moved_line}
use Rattle.sheet_figures.proofs.blank.moved_lines.Goals as goal

pub loop-line-preserved : goal.loop-line-preserved
loop-line-preserved c = record {
  value = mapped_more (moved_line c.args.extent.now) c.args.lines.now c.loop-line.line-index _ c.moved_line.result [] c.loop-line.moved.items _ c.loop-line-test.true c.moved_line.ensures.value c.push.ensures.items c.loop-line.invariant.value;
  same = omega (arith, c.push.ensures.len, c.loop-line.invariant.same);
  near = subst (λ (all : List BendLine). All IsFlatLine all) (sym c.push.ensures.items) (All-push IsFlatLine c.loop-line.moved.items c.moved_line.result c.loop-line.invariant.near c.moved_line.ensures.near);
}
