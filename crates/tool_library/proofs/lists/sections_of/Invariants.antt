use Rattle.std.proofs.Common.{◌≡◌, ◌≤◌, map, length, take}
use Rattle.std.specs.Prelude.{filter_map, All}
use Rattle.toml.specs.View.{view}
use Rattle.tool_library.specs.Tools.{IsSection}
use Rattle.tool_library.specs.ToolsFile.{section_of}
use Rattle.tool_library.proofs.lists.sections_of.Given as goal

abbrev pub invariant-loop-item : goal.invariant-loop-item
invariant-loop-item l = record {
  sections : filter_map section_of (map view (take l.item-index l.items)) ≡ l.sections.items;
  count : length l.sections.items ≤ l.item-index;
  fit : All IsSection l.sections.items;
}
