use Rattle.std.proofs.Common.{◌≡◌, map, length, drop}
use Rattle.toml.specs.View.{view}
use Rattle.toml_fields.specs.Results.{each_from}
use Rattle.toml_fields.proofs.Each.{with_front}
use Rattle.machine_file.specs.MachineFile.{fixed_between}
use Rattle.machine_file.proofs.boxes.boxes_between.Given as goal

abbrev pub invariant-loop-item : goal.invariant-loop-item
invariant-loop-item l = record {
  count : length l.boxes.items ≡ l.item-index;
  reads : with_front l.boxes.items (each_from (fixed_between l.heights.lowest l.heights.highest) l.item-index (map view (drop l.item-index l.items))) ≡ each_from (fixed_between l.heights.lowest l.heights.highest) 0 (map view l.items);
}
