-- One solid box by itself.
use Rattle.std.proofs.Common.{◌<◌, [], ◌∷◌, arith}
use Rattle.std.proofs.lemmas.List.Elements.{All-nil, All-cons}
use Rattle.fold_boxes.specs.declared.posed_part.PoseBox.{PoseBox}
use Rattle.sweep_check.specs.Pieces.{IsSolidBox, AreSolidBoxes}
use Rattle.sweep_check.proofs.Ascending.{pairs_nil, pairs_cons}

pub one_solid : (box : PoseBox) → IsSolidBox box → AreSolidBoxes (box ∷ [])
one_solid box solid = record {
  solid = All-cons IsSolidBox box [] solid (All-nil IsSolidBox);
  few = omega arith;
  ascend = pairs_cons (λ (a b : PoseBox). a.id < b.id) box [] (All-nil (λ (b : PoseBox). box.id < b.id)) (pairs_nil (λ (a b : PoseBox). a.id < b.id));
}
