use Rattle.std.proofs.Common.{◌≡◌, ◌∙◌, length, sym}
use Rattle.std.proofs.lemmas.List.{length-map}
use Rattle.part_file.specs.Part.{part_data}
use Rattle.part_file.proofs.PartRules.{faces_decide}
use Rattle.part_file.proofs.part.Part.is_valid.Goals.{then-is_sheet, else-is_sheet}
use Rattle.part_file.proofs.part.Part.is_valid.Goals as goal

pub returns-then-not-is_empty : goal.returns-then-not-is_empty
returns-then-not-is_empty c =
    let same : c.as_slice-faces.result.now ≡ c.args.self.now.faces.items = c.as_slice-faces.ensures.value in
    elim c.if-is_sheet.branch [
      | then-is_sheet w ↦
          faces_decide (part_data c.args.self.now) (length c.args.self.now.faces.items) w.is_empty.result c.are_faces.result (length-map _ _) (rw same at c.as_slice-faces.ensures.fits) (c.is_sheet.ensures.0 w.if-is_sheet.true) (rw same at w.is_empty.ensures) (sym w.value-is ∙ c.if-not-is_empty.true) (rw same at c.are_faces.ensures)
      | else-is_sheet w ↦ absurd (cc)
    ]
