use Rattle.std.proofs.Common.{◌≡◌, map, length}
use Rattle.std.specs.List.{range_with_len}
use Rattle.part_file.specs.Part.{face_data}
use Rattle.part_file.specs.Rows.{face_row_data}
use Rattle.part_file.specs.PartFile.{face_of}
use Rattle.part_file.proofs.faces.faces_of.Given as goal

abbrev pub invariant-loop-face : goal.invariant-loop-face
invariant-loop-face l = record {
  count : length l.faces.items ≡ l.face;
  same : map face_data l.faces.items ≡ map (face_of (map face_row_data l.rows)) (range_with_len 0 l.face);
}
