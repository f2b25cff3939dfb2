use Rattle.std.proofs.Common.{◌≡◌, ◌≤◌, map, length, take}
use Rattle.std.specs.Prelude.{filter_map}
use Rattle.toml.specs.View.{view}
use Rattle.tool_library.specs.ToolsFile.{rect_of}
use Rattle.tool_library.proofs.lists.rects_of.Given as goal

abbrev pub invariant-loop-item : goal.invariant-loop-item
invariant-loop-item l = record {
  rects : filter_map rect_of (map view (take l.item-index l.items)) ≡ l.rects.items;
  count : length l.rects.items ≤ l.item-index;
}
