use Rattle.std.proofs.Common.{◌≡◌, map, length, drop}
use Rattle.toml.specs.View.{view}
use Rattle.toml_fields.specs.Results.{each_from}
use Rattle.toml_fields.proofs.Each.{with_front}
use Rattle.part_file.specs.Rows.{face_row_data}
use Rattle.part_file.specs.PartFile.{face_row}
use Rattle.part_file.proofs.rows.face_rows.Given as goal

abbrev pub invariant-loop-item : goal.invariant-loop-item
invariant-loop-item l = record {
  count : length l.rows.items ≡ l.item-index;
  reads : with_front (map face_row_data l.rows.items) (each_from face_row l.item-index (map view (drop l.item-index l.items))) ≡ each_from face_row 0 (map view l.items);
}
