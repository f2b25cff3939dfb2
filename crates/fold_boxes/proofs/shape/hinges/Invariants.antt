use Rattle.std.proofs.Common.{◌≡◌, ◌+◌, length}
use Rattle.part_file.specs.Part.{part_data}
use Rattle.fold_boxes.specs.Hinges.{AreHinges}
use Rattle.fold_boxes.proofs.shape.hinges.Given as goal

abbrev pub invariant-loop-bend : goal.invariant-loop-bend
invariant-loop-bend l = record {
  count : length l.hinges.items + 1 ≡ l.bend;
  each : AreHinges (record { part = part_data l.part; q = l.q }) l.hinges.items;
}
