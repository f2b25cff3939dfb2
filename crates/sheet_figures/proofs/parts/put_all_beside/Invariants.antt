use Rattle.std.proofs.Common.{◌≡◌, ◌++◌, take}
use Rattle.std.specs.List.{flat_map}
use Rattle.sheet_figures.specs.Parts.{beside_text}
use Rattle.sheet_figures.proofs.parts.put_all_beside.Given as goal

abbrev pub invariant-loop-part_box : goal.invariant-loop-part_box
invariant-loop-part_box l = l.out.items ≡ l.initial.out.items ++ flat_map (beside_text l.window l.shown) (take l.part_box-index l.boxes)
