use Rattle.std.proofs.Common.{◌≡◌, ◌∙◌, ap, sym, arith}
use Rattle.std.proofs.lemmas.Bool.{le-ltb}
use Rattle.brake_base.specs.Masks.{has}
use Rattle.fold_boxes.specs.Pose.{face_of_box}
use Rattle.fold_boxes.proofs.Leads.{has_none}
use Rattle.sheet_views.proofs.part_views.is_moved.Goals as goal

pub returns-else-face-gt0 : goal.returns-else-face-gt0
returns-else-face-gt0 c =
    let face = c.face_of_box-face.result in
    let none : face ≡ 0 = omega (arith, c.if-face-gt0.false) in
    let same : face_of_box c.args.id ≡ 0 = sym c.face_of_box-face.ensures.value ∙ none in
    le-ltb 0 face (omega (arith, none)) ∙ sym (ap (has c.args.beyond) same ∙ has_none c.args.beyond)
