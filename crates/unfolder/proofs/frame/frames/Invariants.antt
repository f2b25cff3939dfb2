use Rattle.std.proofs.Common.{◌≡◌, map, length}
use Rattle.part_file.specs.Part.{face_data}
use Rattle.unfolder.specs.Frames.{AreFrames}
use Rattle.unfolder.proofs.frame.frames.Given as goal

abbrev pub invariant-loop-bend : goal.invariant-loop-bend
invariant-loop-bend l = record {
  count : length l.frames.items ≡ l.bend;
  each : AreFrames (map face_data l.part.faces.items) l.q l.frames.items;
}
