-- The icons so far.
use Rattle.std.proofs.Common.{◌≡◌, ◌++◌, flat_map, take}
use Rattle.sheet_page.specs.Facts.{icon_line}
use Rattle.sheet_page.proofs.stroke_facts.put_icons.Given as goal

abbrev pub invariant-loop-movement : goal.invariant-loop-movement
invariant-loop-movement l = l.out.items ≡ l.initial.out.items ++ flat_map icon_line (take l.movement-index l.movements)
