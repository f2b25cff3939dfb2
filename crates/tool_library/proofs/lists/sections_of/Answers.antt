use Rattle.std.proofs.Common.{sym, ◌∙◌, arith}
use Rattle.std.proofs.lemmas.List.{length-append}
use Rattle.std.proofs.lemmas.List.Elements.{All-push}
use Rattle.toml.specs.View.{view}
use Rattle.tool_library.specs.Tools.{IsSection}
use Rattle.tool_library.specs.ToolsFile.{section_of}
use Rattle.tool_library.proofs.Collected.{collects, skips}
use Rattle.tool_library.proofs.lists.sections_of.Goals as goal
use Rattle.tool_library.proofs.lists.sections_of.Goals.{in-Some, in_default}

pub loop-item-preserved : goal.loop-item-preserved
loop-item-preserved c =
    elim c.match-section_of.branch [
      | in-Some w ↦
          rw (w.sections-is, w.push.ensures.items) (record {
            sections = collects section_of view c.args.items.now c.item-item.result c.loop-item.item-index w.in-Some.section c.loop-item.sections.items c.loop-item-test.true c.item-item.is (sym c.section_of.ensures.value ∙ w.in-Some.is) c.loop-item.invariant.sections;
            count = simp length-append (omega arith);
            fit = All-push IsSection c.loop-item.sections.items w.in-Some.section c.loop-item.invariant.fit (rw w.in-Some.is at c.section_of.ensures.fit);
          })
      | in_default w ↦
          rw w.sections-is (record {
            sections = skips section_of view c.args.items.now c.item-item.result c.loop-item.item-index c.loop-item.sections.items c.loop-item-test.true c.item-item.is (sym c.section_of.ensures.value ∙ w.in_default.is) c.loop-item.invariant.sections;
            count = omega arith;
            fit = c.loop-item.invariant.fit;
          })
    ]
