use Rattle.std.proofs.Common.{map, arith, refl}
use Rattle.std.proofs.lemmas.List.{map_push}
use Rattle.std.proofs.lemmas.List.FromFn.{map-range_with_len_more}
use Rattle.part_file.specs.Part.{face_data}
use Rattle.part_file.specs.Rows.{face_row_data}
use Rattle.part_file.specs.PartFile.{face_of}
use Rattle.part_file.proofs.faces.faces_of.Goals as goal

pub loop-face-preserved : goal.loop-face-preserved
loop-face-preserved c =
    record {
      count = omega arith;
      same = rw (c.push.ensures.items, map_push face_data c.loop-face.faces.items c.face_of.result, map-range_with_len_more (face_of (map face_row_data c.args.rows.now)) 0 c.loop-face.face c.loop-face.face (omega arith), c.loop-face.invariant.same, c.face_of.ensures) refl;
    }
