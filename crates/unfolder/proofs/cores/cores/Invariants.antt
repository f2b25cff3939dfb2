use Rattle.std.proofs.Common.{◌≡◌, map, All, length}
use Rattle.std.specs.List.{range_with_len}
use Rattle.part_file.specs.Part.{face_data}
use Rattle.unfolder.specs.Near.{IsRectWithin}
use Rattle.unfolder.specs.Cores.{core}
use Rattle.unfolder.proofs.cores.cores.Given as goal

abbrev pub invariant-loop-face : goal.invariant-loop-face
invariant-loop-face l = record {
  count : length l.cores.items ≡ l.face;
  value : l.cores.items ≡ map (core (map face_data l.part.faces.items) l.q) (range_with_len 0 l.face);
  within : All (IsRectWithin 21000000) l.cores.items;
}
