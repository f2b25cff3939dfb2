use Rattle.std.proofs.Common.{◌≡◌, map, length, drop}
use Rattle.toml.specs.View.{view}
use Rattle.toml_fields.specs.Results.{each_from}
use Rattle.toml_fields.proofs.Each.{with_front}
use Rattle.machine_file.specs.MachineFile.{piece_in}
use Rattle.machine_file.proofs.stages.pieces_in.Given as goal

abbrev pub invariant-loop-item : goal.invariant-loop-item
invariant-loop-item l = record {
  count : length l.pieces.items ≡ l.item-index;
  reads : with_front l.pieces.items (each_from (piece_in l.table) l.item-index (map view (drop l.item-index l.items))) ≡ each_from (piece_in l.table) 0 (map view l.items);
}
