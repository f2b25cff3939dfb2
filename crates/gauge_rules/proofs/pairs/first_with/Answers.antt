use Rattle.std.proofs.Common.{subst, arith}
use Rattle.std.proofs.lemmas.List.{length-map}
use Rattle.brake_base.specs.Turns.{map_of}
use Rattle.fold_boxes.specs.Pose.{pose_data}
use Rattle.gauge_rules.proofs.Small.{clash}
use Rattle.gauge_rules.specs.Pairs.{HasFlatFace}
use Rattle.job_setup.proofs.LegalFaces.{legal_within}
use Rattle.gauge_rules.proofs.Firsts.{legal_flat, more_right}
use Rattle.gauge_rules.proofs.pairs.first_with.Goals as goal

pub loop-right_face-preserved : goal.loop-right_face-preserved
loop-right_face-preserved c = more_right c.args.job.now (pose_data c.args.pose.now) c.args.left_face c.loop-right_face.right_face c.loop-right_face.invariant (λ legal. clash c.legal.result c.if-legal.false (c.legal.ensures.1 legal))

pub returns : goal.returns
returns c = λ other same legal.
    let faces = c.args.pose.now.places.items in
    let within = (legal_within c.args.job.now (pose_data c.args.pose.now) other legal).1 in
    c.loop-right_face.invariant other same (omega (arith, within, c.face_count-right_face-end.ensures, length-map faces map_of)) legal

pub returns-then-not-is_some_flat_face : goal.returns-then-not-is_some_flat_face
returns-then-not-is_some_flat_face c = λ other same legal.
    let job = c.args.job.now in
    let pose = pose_data c.args.pose.now in
    let flat = subst (HasFlatFace job pose) same (legal_flat job pose other legal) in
    clash c.is_some_flat_face.result c.if-not-is_some_flat_face.true (c.is_some_flat_face.ensures.1 flat)
