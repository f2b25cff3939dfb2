use Rattle.std.proofs.Common.{rules, tests}
use Rattle.std.proofs.lemmas.Bool.{MatchBool-at_true}
use Rattle.std.proofs.lemmas.Iterator.{cases_from_all, YieldsList-from_slice}
use Rattle.std.proofs.lemmas.Iterator.Search.{true_from_All}
use Rattle.std.proofs.lemmas.List.Elements.{All-from_all_within}
use Rattle.brake_base.specs.declared.space.Box3.{Box3}
use Rattle.brake_base.specs.Boxes.{ShareInterior}
use Rattle.fold_boxes.specs.declared.posed_part.PoseBox.{PoseBox}
use Rattle.gauge_rules.proofs.fingers.is_free.Goals as goal

abbrev IsApart : Box3 → PoseBox → Type 0
IsApart finger box = ShareInterior finger box.body → ⊥

abbrev IsFingerMet : Box3 → PoseBox → Type 0
IsFingerMet finger box = ¬ (IsApart finger box)

pub returns : goal.returns
returns c =
    let P = IsApart c.args.finger.now in
    let Q = IsFingerMet c.args.finger.now in
    let xs = c.args.pose.now.boxes.items in
    let cases = cases_from_all _ _ c.all.result P Q c.all.ensures.ran (YieldsList-from_slice xs cc) (λ x q k. search (rules, tests)) (λ x q k. search (rules, tests)) in
    (λ passes. All-from_all_within P xs (MatchBool-at_true _ _ passes cases), λ all. true_from_All P Q c.all.result xs (λ x p n. n p) cases all)
