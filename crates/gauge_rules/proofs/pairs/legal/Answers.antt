use Rattle.std.proofs.Common.{rules, tests}
use Rattle.std.proofs.lemmas.Bool.{MatchBool-at_true}
use Rattle.std.proofs.lemmas.Iterator.{cases_from_any, YieldsList-from_slice}
use Rattle.fold_boxes.specs.Pose.{pose_data}
use Rattle.job_setup.specs.LegalGauge.{IsLeftOfPair}
use Rattle.gauge_rules.proofs.Some.{any_from, any_to}
use Rattle.gauge_rules.proofs.pairs.legal.Goals as goal

pub returns : goal.returns
returns c =
    let P = IsLeftOfPair c.args.job.now (pose_data c.args.pose.now) c.args.gauge in
    let xs = c.args.pose.now.boxes.items in
    let cases = cases_from_any _ _ c.any.result P (λ box. P box → ⊥) c.any.ensures.ran (YieldsList-from_slice xs cc) (λ x q k. search (rules, tests)) (λ x q k. search (rules, tests)) in
    (λ passes. any_from P xs (MatchBool-at_true _ _ passes cases), λ some. any_to P c.any.result xs cases some)
