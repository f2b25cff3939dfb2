use Rattle.std.proofs.Common.{◌↔◌, IsTrue, sym, subst}
use Rattle.brake_base.specs.declared.reason.Reason.{Reason}
use Rattle.brake_base.specs.declared.reason.Reason.TheVariants.{Upper, Nose, Lower, SelfHit}
use Rattle.fold_boxes.specs.Pose.{pose_data}
use Rattle.sector_geom.specs.declared.sector.Sweep.TheVariants.{Eighth}
use Rattle.job_setup.specs.declared.obstacle.Obstacle.{Obstacle}
use Rattle.job_setup.specs.Obstacles.{upper_group, lower_group}
use Rattle.job_setup.specs.Reasons.{IsReasonOf}
use Rattle.sweep_check.specs.declared.noses.PunchNose.{PunchNose}
use Rattle.sweep_check.specs.Pieces.{pieces_of, back_pieces, front_obstacles}
use Rattle.sweep_check.specs.Hits.{IsPieceMet, IsNoseMet, SomeHit}
use Rattle.sweep_check.proofs.Sweeps.{noses_of}
use Rattle.sweep_check.proofs.KindsOf.{upper_kind, nose_kind, lower_kind, self_kind}
use Rattle.sweep_check.proofs.HitTests.{kind_holds}
use Rattle.sweep_check.proofs.named.holds_with.Goals as goal

pub returns-in-Upper : goal.returns-in-Upper
returns-in-Upper c =
    let job = c.args.job.now in
    let pose = pose_data c.args.pose.now in
    kind_holds job pose c.args.back c.args.stage 4 Upper (SomeHit (λ (o : Obstacle). o.index) IsPieceMet (pieces_of job Eighth pose.boxes) (upper_group job)) c.in-Upper.body c.in-Upper.quarter c.in-Upper.other c.args.reason c.is_upper_hit.result
    (upper_kind job pose c.args.back c.args.stage) c.in-Upper.is c.is_upper_hit.ensures

pub returns-in-Nose : goal.returns-in-Nose
returns-in-Nose c =
    let job = c.args.job.now in
    let pose = pose_data c.args.pose.now in
    kind_holds job pose c.args.back c.args.stage 5 Nose (SomeHit (λ (nose : PunchNose). nose.stage) IsNoseMet (pieces_of job Eighth pose.boxes) (noses_of job)) c.in-Nose.body c.in-Nose.quarter c.in-Nose.other c.args.reason c.is_nose_hit.result
    (nose_kind job pose c.args.back c.args.stage) c.in-Nose.is c.is_nose_hit.ensures

pub returns-in-Lower : goal.returns-in-Lower
returns-in-Lower c =
    let job = c.args.job.now in
    let pose = pose_data c.args.pose.now in
    kind_holds job pose c.args.back c.args.stage 6 Lower (SomeHit (λ (o : Obstacle). o.index) IsPieceMet (pieces_of job Eighth pose.boxes) (lower_group job c.args.stage)) c.in-Lower.body c.in-Lower.quarter c.in-Lower.other c.args.reason c.is_lower_hit.result
    (lower_kind job pose c.args.back c.args.stage) c.in-Lower.is c.is_lower_hit.ensures

pub returns-in-SelfHit : goal.returns-in-SelfHit
returns-in-SelfHit c =
    let job = c.args.job.now in
    let pose = pose_data c.args.pose.now in
    kind_holds job pose c.args.back c.args.stage 7 SelfHit (SomeHit (λ (o : Obstacle). o.index) IsPieceMet (back_pieces job pose.boxes) (front_obstacles job pose.boxes)) c.in-SelfHit.body c.in-SelfHit.quarter c.in-SelfHit.other c.args.reason c.is_self_hit.result
    (self_kind job pose c.args.back c.args.stage) c.in-SelfHit.is c.is_self_hit.ensures

pub returns-in-Frame : goal.returns-in-Frame
returns-in-Frame c =
    let job = c.args.job.now in
    let pose = pose_data c.args.pose.now in
    subst (λ (r : Reason). IsTrue c.is_frame_met.result ↔ IsReasonOf job pose c.args.back c.args.stage r) (sym c.in-Frame.is) c.is_frame_met.ensures
