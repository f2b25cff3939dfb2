use Rattle.std.proofs.Common.{◌≡◌, ◌++◌, take}
use Rattle.std.specs.List.{flat_map}
use Rattle.setup_sheet.specs.Sheets.{bend_line}
use Rattle.setup_sheet.proofs.blank.put_bends.Given as goal

abbrev pub invariant-loop-line : goal.invariant-loop-line
invariant-loop-line l = l.out.items ≡ l.initial.out.items ++ flat_map (bend_line l.extent) (take l.line-index l.lines)
