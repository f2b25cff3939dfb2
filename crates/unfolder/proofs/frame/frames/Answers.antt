use Rattle.std.proofs.Common.{◌<◌, ◌≤◌, length, map, arith, subst, sym, ap, w64, to_z, of_z}
use Rattle.std.proofs.lemmas.List.{length-map}
use Rattle.part_file.specs.Part.{face_data, part_data}
use Rattle.unfolder.specs.Frames.{IsFrameOf}
use Rattle.unfolder.proofs.FrameLemmas.{frame_within_more, read_frame, first_frame, next_frame, each_pushed}
use Rattle.unfolder.proofs.frame.frames.Goals as goal

pub loop-bend-init : goal.loop-bend-init
loop-bend-init c = record {
  count = omega (arith, c.push.ensures.len, ap length c.new-frames.ensures);
  each = first_frame _ _ _ _ _ c.new-frames.ensures c.push.ensures.items c.default.ensures.0 c.default.ensures.1.0 c.default.ensures.1.1;
}

pub then-requires-clause-frame : goal.then-requires-clause-frame
then-requires-clause-frame c =
    let on : c.joint_of-joint.result.on < length c.loop-bend.frames.items = omega (arith, c.joint_of-joint.ensures.rules.earlier) in
    let few : c.joint_of-joint.result.on ≤ 12 = omega (arith, c.joint_of-joint.ensures.rules.earlier) in
    frame_within_more _ 12 _ few (read_frame _ _ _ _ _ _ _ c.loop-bend.invariant.each c.as_slice.ensures.value c.from.ensures on).within

pub loop-bend-preserved : goal.loop-bend-preserved
loop-bend-preserved c =
    let items = c.args.part.now.faces.items in
    let on : c.joint_of-joint.result.on < length c.loop-bend.frames.items = omega (arith, c.joint_of-joint.ensures.rules.earlier) in
    let inside : c.loop-bend.bend < length (map face_data items) = omega (arith, length-map items face_data) in
    let parent = read_frame _ _ _ _ _ _ _ c.loop-bend.invariant.each c.as_slice.ensures.value c.from.ensures on in
    let child = next_frame (part_data c.args.part.now) c.requires.part _ c.loop-bend.bend c.joint_of-joint.result _ _ c.then.result c.joint_of-joint.ensures.value (omega arith) inside c.joint_of-joint.ensures.rules.earlier parent c.frame_on_parent-on_parent.ensures.value c.then.ensures.value c.then.ensures.within in
    record {
      count = omega (arith, c.push-in-loop-bend.ensures.len);
      each = each_pushed (IsFrameOf (map face_data items) (to_z w64 (of_z w64 c.args.q))) _ _ _ c.push-in-loop-bend.ensures.items c.loop-bend.invariant.each (subst (λ n. IsFrameOf (map face_data items) (to_z w64 (of_z w64 c.args.q)) n c.then.result) (sym c.loop-bend.invariant.count) child);
    }

pub returns-clause-within : goal.returns-clause-within
returns-clause-within c = λ k d inside.
    let some = c.requires.part.some_face in
    let long = length-map c.args.part.now.faces.items face_data in
    let last : k ≤ 12 = omega (arith, c.loop-bend.auto.bend-end (omega arith)) in
    frame_within_more k 12 _ last (c.loop-bend.invariant.each k d inside).within
