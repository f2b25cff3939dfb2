use Rattle.std.proofs.Common.{◌≡◌, ◌∙◌, ap, sym, arith}
use Rattle.std.proofs.lemmas.Bool.{le-ltb}
use Rattle.brake_base.specs.Masks.{has}
use Rattle.fold_boxes.proofs.Leads.{has_none}
use Rattle.fold_boxes.proofs.halves.holds_face.Goals as goal

pub returns-else-face-gt0 : goal.returns-else-face-gt0
returns-else-face-gt0 c =
    let none : c.args.face ≡ 0 = omega (arith, c.if-face-gt0.false) in
    le-ltb 0 c.args.face (omega (arith, none)) ∙ sym (ap (has c.args.bends) none ∙ has_none c.args.bends)
