use Rattle.std.proofs.Common.{◌≡◌, ◌∙◌, ap, rules, arith, w64, SFits}
use Rattle.std.proofs.lemmas.Int.{ints, to_z-of_z}
use Rattle.unfolder.specs.declared.blank.FlatRect.{FlatRect}
use Rattle.brake_base.proofs.Vectors.{same_point, same_box}
use Rattle.part_file.specs.Part.{half_thickness}
use Rattle.fold_boxes.proofs.shape.Shape.core_box.Goals as goal

pub returns-clause-value : goal.returns-clause-value
returns-clause-value c =
    let tau : c.half_thickness-tau.result ≡ half_thickness c.args.self.now.part = c.half_thickness-tau.ensures.value ∙ ap half_thickness c.part.ensures.value in
    let tau_low = c.half_thickness-tau.ensures.low in
    let tau_high = c.half_thickness-tau.ensures.high in
    let x0 = ap (λ (r : FlatRect). r.x0) c.core-core.ensures.value in
    let x1 = ap (λ (r : FlatRect). r.x1) c.core-core.ensures.value in
    let y0 = ap (λ (r : FlatRect). r.y0) c.core-core.ensures.value in
    let y1 = ap (λ (r : FlatRect). r.y1) c.core-core.ensures.value in
    let x0_fits : SFits w64 c.core-core.result.now.x0 = search rules in
    let x1_fits : SFits w64 c.core-core.result.now.x1 = search rules in
    let y0_fits : SFits w64 c.core-core.result.now.y0 = search rules in
    let y1_fits : SFits w64 c.core-core.result.now.y1 = search rules in
    same_box _ _
    (same_point _ _ (to_z-of_z w64 _ x0_fits ∙ x0) (to_z-of_z w64 _ y0_fits ∙ y0) (omega (arith, ints, tau)))
    (same_point _ _ (to_z-of_z w64 _ x1_fits ∙ x1) (to_z-of_z w64 _ y1_fits ∙ y1) (omega (arith, ints, tau)))
