use Rattle.std.proofs.Common.{◌≡◌, ◌++◌, map}
use Rattle.std.specs.List.{flat_map, range_with_len}
use Rattle.part_file.specs.Part.{face_data, face_at}
use Rattle.setup_sheet.specs.Sheets.{face_line, rect_at}
use Rattle.setup_sheet.proofs.blank.put_faces.Given as goal

abbrev pub invariant-loop-i : goal.invariant-loop-i
invariant-loop-i l = l.out.items ≡ l.initial.out.items ++ flat_map (λ f. face_line l.extent f (face_at (map face_data l.faces) f).name (rect_at l.flat_faces f)) (range_with_len 0 l.i)
