use Rattle.std.proofs.Common.{sym, ◌∙◌, arith}
use Rattle.std.proofs.lemmas.List.{length-append}
use Rattle.toml.specs.View.{view}
use Rattle.tool_library.specs.ToolsFile.{rect_of}
use Rattle.tool_library.proofs.Collected.{collects, skips}
use Rattle.tool_library.proofs.lists.rects_of.Goals as goal
use Rattle.tool_library.proofs.lists.rects_of.Goals.{in-Some, in_default}

pub loop-item-preserved : goal.loop-item-preserved
loop-item-preserved c =
    elim c.match-rect_of.branch [
      | in-Some w ↦
          rw (w.rects-is, w.push.ensures.items) (record {
            rects = collects rect_of view c.args.items.now c.item-item.result c.loop-item.item-index w.in-Some.rect c.loop-item.rects.items c.loop-item-test.true c.item-item.is (sym c.rect_of.ensures ∙ w.in-Some.is) c.loop-item.invariant.rects;
            count = simp length-append (omega arith);
          })
      | in_default w ↦
          rw w.rects-is (record {
            rects = skips rect_of view c.args.items.now c.item-item.result c.loop-item.item-index c.loop-item.rects.items c.loop-item-test.true c.item-item.is (sym c.rect_of.ensures ∙ w.in_default.is) c.loop-item.invariant.rects;
            count = omega arith;
          })
    ]
