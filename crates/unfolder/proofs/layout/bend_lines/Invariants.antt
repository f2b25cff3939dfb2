use Rattle.std.proofs.Common.{◌≡◌, ◌+◌, ◌-◌, map, length}
use Rattle.std.specs.Prelude.{All}
use Rattle.std.specs.List.{range_with_len}
use Rattle.part_file.specs.Part.{face_data}
use Rattle.unfolder.specs.Extent.{IsNearLine}
use Rattle.unfolder.specs.Tables.{laid_line}
use Rattle.unfolder.proofs.layout.bend_lines.Given as goal

abbrev pub invariant-loop-bend : goal.invariant-loop-bend
invariant-loop-bend l = record {
  count : length l.bends.items + 1 ≡ l.bend;
  value : l.bends.items ≡ map (laid_line (map face_data l.part.faces.items) l.frames l.lines) (range_with_len 1 (l.bend - 1));
  near : All IsNearLine l.bends.items;
}
