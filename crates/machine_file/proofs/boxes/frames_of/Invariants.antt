use Rattle.std.proofs.Common.{◌≡◌, map, length, drop}
use Rattle.toml.specs.View.{view}
use Rattle.toml_fields.specs.Results.{each_from}
use Rattle.toml_fields.proofs.Each.{with_front}
use Rattle.machine_file.specs.MachineFile.{frame_of}
use Rattle.machine_file.proofs.boxes.frames_of.Given as goal

abbrev pub invariant-loop-item : goal.invariant-loop-item
invariant-loop-item l = record {
  count : length l.frames.items ≡ l.item-index;
  reads : with_front l.frames.items (each_from frame_of l.item-index (map view (drop l.item-index l.items))) ≡ each_from frame_of 0 (map view l.items);
}
