use Rattle.std.proofs.Common.{◌<◌, length, map, sym, ◌∙◌, ap, arith}
use Rattle.std.proofs.lemmas.List.{length-map}
use Rattle.part_file.specs.Part.{face_data}
use Rattle.unfolder.proofs.Faces.{face_at_is, wide_is, long_is}
use Rattle.unfolder.proofs.cores.face_of.Goals as goal

pub returns-clause-wide : goal.returns-clause-wide
returns-clause-wide c =
    let x = c.index-as_slice-from.result in
    let items = c.args.part.now.faces.items in
    let inside : c.args.face < length (map face_data items) = omega (arith, length-map items face_data) in
    wide_is x _ (face_at_is c.as_slice.result.now items c.args.face c.from.result x c.as_slice.ensures.value c.from.ensures c.requires.face ∙ ap face_data (sym c.index-as_slice-from.is)) (c.requires.part.each_face c.args.face inside).placed.sizes.wide

pub returns-clause-long : goal.returns-clause-long
returns-clause-long c =
    let x = c.index-as_slice-from.result in
    let items = c.args.part.now.faces.items in
    let inside : c.args.face < length (map face_data items) = omega (arith, length-map items face_data) in
    long_is x _ (face_at_is c.as_slice.result.now items c.args.face c.from.result x c.as_slice.ensures.value c.from.ensures c.requires.face ∙ ap face_data (sym c.index-as_slice-from.is)) (c.requires.part.each_face c.args.face inside).placed.sizes.long
