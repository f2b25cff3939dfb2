use Rattle.std.proofs.Common.{◌∙◌, sym, subst, w64}
use Rattle.std.proofs.lemmas.Int.{to_z-of_z}
use Rattle.std.proofs.lemmas.List.{length-map}
use Rattle.part_file.specs.Part.{face_data, part_data}
use Rattle.fold_boxes.specs.Shapes.{ShapeData}
use Rattle.fold_boxes.specs.Hinges.{Keeps}
use Rattle.fold_boxes.proofs.shape.Shape.new.Goals as goal

pub invariant_of-result : goal.invariant_of-result
invariant_of-result c =
    let part = part_data c.args.part.now in
    let q = c.args.q in
    let q_fits = c.ranges.q in
    let shape : ShapeData = record { part = part; q = q } in
    let kept : Keeps shape c.cores.result.items c.hinges.result.items = record {
      rules = record { part = c.requires.part; q_low = c.requires.q_low; q_high = c.requires.q_high; unfolds = c.requires.unfolds };
      cores_are = simp to_z-of_z at c.cores.ensures.value;
      cores_near = c.cores.ensures.within;
      hinge_count = c.hinges.ensures.count ∙ sym (length-map c.args.part.now.faces.items face_data);
      hinges_are = simp to_z-of_z at c.hinges.ensures.each;
    } in
    subst (λ (s : ShapeData). Keeps s c.cores.result.items c.hinges.result.items) (λ i. record { part = sym c.copy.ensures i; q = sym (to_z-of_z w64 q q_fits) i }) kept
