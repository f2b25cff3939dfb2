use Rattle.std.proofs.Common.{rules, tests}
use Rattle.std.specs.Prelude.{Any}
use Rattle.std.proofs.lemmas.Bool.{MatchBool-at_true}
use Rattle.std.proofs.lemmas.Iterator.{cases_from_any, YieldsList-from_slice}
use Rattle.fold_boxes.specs.Pose.{pose_data}
use Rattle.job_setup.specs.LegalGauge.{IsRightOf}
use Rattle.gauge_rules.proofs.Some.{any_from, any_to, second}
use Rattle.gauge_rules.proofs.pairs.is_left_of_pair.Goals as goal

pub returns-then-is_flat_face : goal.returns-then-is_flat_face
returns-then-is_flat_face c =
    let P = IsRightOf c.args.job.now (pose_data c.args.pose.now) c.args.gauge c.args.left.now in
    let xs = c.args.pose.now.boxes.items in
    let cases = cases_from_any _ _ c.any.result P (λ box. P box → ⊥) c.any.ensures.ran (YieldsList-from_slice xs cc) (λ x q k. search (rules, tests)) (λ x q k. search (rules, tests)) in
    (λ passes. (c.is_flat_face.ensures.0 c.if-is_flat_face.true, any_from P xs (MatchBool-at_true _ _ passes cases)), λ some. any_to P c.any.result xs cases (second _ (Any P xs) some))
