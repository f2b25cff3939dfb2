use Rattle.std.proofs.Common.{◌≡◌, ◌++◌, flat_map}
use Rattle.std.specs.List.{range_with_len}
use Rattle.sheet_page.specs.FaceTable.{face_row}
use Rattle.sheet_page.proofs.blank_part.put_rows.Given as goal

-- the rows so far
abbrev pub invariant-loop-number : goal.invariant-loop-number
invariant-loop-number l = l.out.items ≡ l.fn.out.items ++ flat_map (face_row l.job l.flat) (range_with_len 0 l.number)
