use Rattle.std.proofs.Common.{◌∙◌, ap, arith}
use Rattle.brake_base.specs.Turns.{map_of}
use Rattle.box_support.proofs.Boxes.{face_number}
use Rattle.stroke_table.specs.Codes.{stroke_place}
use Rattle.stroke_table.proofs.StageBoxes.{given_coded, codes_there, is_box_of}
use Rattle.stroke_table.proofs.gathering.find_box.Goals as goal

pub box_codes-codes-requires-clause-body : goal.box_codes-codes-requires-clause-body
box_codes-codes-requires-clause-body c =
    let key = c.args.key.now in
    let found = c.stroke_box-place.ensures in
    is_box_of c.args.job.now found.valid c.args.mask key.of key.number c.requires.box_.number c.stroke_box-place.result.0 c.requires.box_.group found.body found.near

pub box_codes-codes-requires-clause-coded : goal.box_codes-codes-requires-clause-coded
box_codes-codes-requires-clause-coded c = λ stage reason within holds.
    let key = c.args.key.now in
    let found = c.stroke_box-place.ensures in
    given_coded c.args.job.now found.valid c.args.mask key.of key.number c.requires.box_.number c.stroke_box-place.result.0 found.body stage reason holds

pub returns-clause-found : goal.returns-clause-found
returns-clause-found c =
    let job = c.args.job.now in
    let key = c.args.key.now in
    let found = c.stroke_box-place.ensures in
    record {
      codes = codes_there job found.valid c.args.mask key.of key.number c.requires.box_.number c.stroke_box-place.result.0 c.box_codes-codes.result.0 found.body c.box_codes-codes.ensures;
      body = found.body;
      near = found.near;
      place = λ face. found.place ∙ ap (stroke_place job c.args.mask key.of) (face_number key.number (omega (arith, face, found.valid.part.few_faces)));
    }
