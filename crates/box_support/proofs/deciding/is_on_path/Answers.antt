use Rattle.std.proofs.Common.{◌∙◌, ◌<◌, not, ◌&&◌, ◌||◌, length, arith}
use Rattle.std.proofs.lemmas.List.{length-map}
use Rattle.part_file.specs.Part.{part_data, face_data}
use Rattle.box_support.proofs.Paths.{beyond_told, differ_is}
use Rattle.box_support.proofs.deciding.is_on_path.Goals as goal

pub returns : goal.returns
returns c =
    let part = part_data c.args.part.now in
    let count = length-map c.args.part.now.faces.items face_data in
    let from : c.args.from < length part.faces = omega (arith, count, c.requires.from) in
    let to : c.args.to < length part.faces = omega (arith, count, c.requires.to) in
    let one = beyond_told part c.requires.fit c.args.bend c.args.from c.requires.first from c.side_of.result c.side_of.ensures in
    let other = beyond_told part c.requires.fit c.args.bend c.args.to c.requires.first to c.side_of-2.result c.side_of-2.ensures in
    differ_is c.side_of.result c.side_of-2.result ∙ (λ i. (one i && not (other i)) || (other i && not (one i)))
