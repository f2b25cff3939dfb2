use Rattle.std.proofs.Common.{map}
use Rattle.part_file.specs.Part.{face_data}
use Rattle.unfolder.specs.Tables.{is_off_edge_in}
use Rattle.unfolder.proofs.Finding.{NoneBelow}
use Rattle.unfolder.proofs.refusals.first_off_face.Given as goal

abbrev pub invariant-loop-bend : goal.invariant-loop-bend
invariant-loop-bend l = NoneBelow (is_off_edge_in (map face_data l.part.faces.items) l.cores l.lines) 1 l.bend
