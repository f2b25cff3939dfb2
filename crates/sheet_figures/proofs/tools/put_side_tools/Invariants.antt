use Rattle.std.proofs.Common.{◌≡◌, ◌++◌, take}
use Rattle.std.specs.List.{flat_map}
use Rattle.sheet_figures.specs.Tools.{side_tool_line}
use Rattle.sheet_figures.proofs.tools.put_side_tools.Given as goal

abbrev pub invariant-loop-tool : goal.invariant-loop-tool
invariant-loop-tool l = l.out.items ≡ l.initial.out.items ++ flat_map (side_tool_line l.form l.window) (take l.tool-index l.tools)
