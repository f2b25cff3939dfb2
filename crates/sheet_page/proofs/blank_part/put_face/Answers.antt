use Rattle.std.proofs.Common.{◌∙◌, ap}
use Rattle.part_file.specs.Part.{PartData, face_data, face_at}
use Rattle.sheet_page.proofs.Sections.{row_put}
use Rattle.sheet_page.proofs.blank_part.put_face.Goals as goal

pub returns : goal.returns
returns c =
    let face = c.face_of-face.ensures.value ∙ ap (λ (p : PartData). face_at p.faces c.args.number) c.part.ensures.value in
    row_put c.args.job.now c.args.flat.now c.args.number (face_data c.face_of-face.result.now) c.core_of.result.now c.in_ok-words.words c.args.out.now.items c.put_face_row.new.out.items c.put_face_row.result face c.core_of.ensures c.in_ok-words.ensures c.put_face_row.ensures
