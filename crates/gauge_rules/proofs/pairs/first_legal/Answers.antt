use Rattle.std.proofs.Common.{subst, Option, Some, None, arith}
use Rattle.std.proofs.lemmas.List.{length-map}
use Rattle.brake_base.specs.declared.stroke.Gauge.{Gauge}
use Rattle.brake_base.specs.Turns.{map_of}
use Rattle.fold_boxes.specs.Pose.{pose_data}
use Rattle.gauge_rules.specs.Pairs.{IsFirstWith}
use Rattle.job_setup.proofs.LegalFaces.{legal_within}
use Rattle.gauge_rules.proofs.Firsts.{more_left, first_of, none_lacks}
use Rattle.gauge_rules.proofs.pairs.first_legal.Goals as goal

pub returns-in-Some-clause-first : goal.returns-in-Some-clause-first
returns-in-Some-clause-first c = first_of c.args.job.now (pose_data c.args.pose.now) c.loop-left_face.left_face _ c.loop-left_face.invariant c.in-Some.ensures

pub returns-in-Some-clause-none : goal.returns-in-Some-clause-none
returns-in-Some-clause-none c = none_lacks c.args.job.now (pose_data c.args.pose.now) (Some c.in-Some.gauge) (returns-in-Some-clause-first c)

pub loop-left_face-preserved : goal.loop-left_face-preserved
loop-left_face-preserved c =
    let job = c.args.job.now in
    let pose = pose_data c.args.pose.now in
    let none = subst (λ (found : Option Gauge). IsFirstWith job pose c.loop-left_face.left_face found) c.in_default.is c.first_with.ensures in
    more_left job pose c.loop-left_face.left_face c.loop-left_face.invariant none

pub returns-clause-first : goal.returns-clause-first
returns-clause-first c = λ other legal.
    let faces = c.args.pose.now.places.items in
    let within = (legal_within c.args.job.now (pose_data c.args.pose.now) other legal).0 in
    c.loop-left_face.invariant other (omega (arith, within, c.face_count-left_face-end.ensures, length-map faces map_of)) legal

pub returns-clause-none : goal.returns-clause-none
returns-clause-none c = none_lacks c.args.job.now (pose_data c.args.pose.now) None (returns-clause-first c)
