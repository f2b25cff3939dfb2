use Rattle.std.proofs.Common.{◌≡◌, length, map, take}
use Rattle.sheet_figures.proofs.body.bodies_of.Given as goal

abbrev pub invariant-loop-part_box : goal.invariant-loop-part_box
invariant-loop-part_box l = record {
  count : length l.bodies.items ≡ l.part_box-index;
  value : l.bodies.items ≡ map (λ b. b.body) (take l.part_box-index l.boxes);
}
