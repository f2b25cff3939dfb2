use Rattle.std.proofs.Common.{◌≡◌, ◌++◌, take}
use Rattle.std.specs.List.{flat_map}
use Rattle.sheet_figures.specs.Blanks.{bend_text}
use Rattle.sheet_figures.proofs.blank.put_bends.Given as goal

abbrev pub invariant-loop-line : goal.invariant-loop-line
invariant-loop-line l = l.out.items ≡ l.initial.out.items ++ flat_map (bend_text l.window) (take l.line-index l.lines)
