use Rattle.std.proofs.Common.{◌≡◌, ◌+◌, ◌-◌, map, All, length}
use Rattle.std.specs.List.{range_with_len}
use Rattle.part_file.specs.Part.{face_data}
use Rattle.unfolder.specs.Near.{IsLineWithin}
use Rattle.unfolder.specs.Cores.{parent_line}
use Rattle.unfolder.proofs.cores.parent_lines.Given as goal

abbrev pub invariant-loop-bend : goal.invariant-loop-bend
invariant-loop-bend l = record {
  count : length l.lines.items + 1 ≡ l.bend;
  value : l.lines.items ≡ map (parent_line (map face_data l.part.faces.items) l.q) (range_with_len 1 (l.bend - 1));
  within : All (IsLineWithin 21000000) l.lines.items;
}
